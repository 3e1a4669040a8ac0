-- A log goes on, note by note.
use Rattle.std.proofs.Common.{◌≡◌, ◌∙◌, List, [], ◌∷◌, ◌++◌, ℕ, Bool, true, false, refl, sym, ap}
use Rattle.std.proofs.Common.{append_assoc, append-nil}
use Rattle.std.specs.Prelude.{◌||◌, map, not, if◌then◌else◌}
use Rattle.std.specs.List.{list_any}
use Rattle.std.proofs.lemmas.List.Folds.{list_any-append}
use Rattle.inspector_script.specs.Scripts.{ScriptValue}
use Rattle.run_parts.specs.Log.{Note, Got, Turned, Begun, Spoke, Shut, Due, Standing, after, having}
use Rattle.run_parts.specs.Log.{answering, dids_by, is_pool, IsNext, logged}
use Rattle.run_parts.specs.Log.{AreNextFrom, standing_from}
use Rattle.run_parts.specs.Closing.{is_closed}
use Rattle.run_parts.specs.Requests.{Plea, pleas_told}
use Rattle.run_parts.specs.Order.{kind_at, kinds_from}

or_false : (b : Bool) → (b || false) ≡ b
or_false true = refl
or_false false = refl

or_true : (b : Bool) → (b || true) ≡ true
or_true true = refl
or_true false = refl

-- answers that a port has change neither what it did nor whether it is open
same_dids : (workers : ℕ) (answers : List Due) (t : Standing) →
    (answering workers answers t).dids ≡ t.dids
same_dids workers answers t = by (is_pool workers)
  where
    by : (c : Bool) →
        (if c then record t { pending = t.pending ++ answers ∷ [] }
        else record t { owed = answers }).dids ≡ t.dids
    by true = refl
    by false = refl

same_open : (workers : ℕ) (answers : List Due) (t : Standing) →
    (answering workers answers t).is_open ≡ t.is_open
same_open workers answers t = by (is_pool workers)
  where
    by : (c : Bool) →
        (if c then record t { pending = t.pending ++ answers ∷ [] }
        else record t { owed = answers }).is_open ≡ t.is_open
    by true = refl
    by false = refl

module _ (workers : ℕ) (script : ScriptValue) (place port : ℕ) where
  pub next_push : (t : Standing) (ns : List Note) (n : Note) →
      AreNextFrom workers script place port t ns →
      IsNext workers (standing_from workers script place port t ns) n →
      AreNextFrom workers script place port t (ns ++ n ∷ [])
  next_push t [] n are is = (is, tt)
  next_push t (m ∷ ns) n are is =
      (are.0, next_push (after workers script place port t m) ns n are.1 is)

  pub standing_push : (t : Standing) (ns : List Note) (n : Note) →
      standing_from workers script place port t (ns ++ n ∷ [])
      ≡ after workers script place port (standing_from workers script place port t ns) n
  standing_push t [] n = refl
  standing_push t (m ∷ ns) n = standing_push (after workers script place port t m) ns n

  dids_after : (t : Standing) (n : Note) →
      (after workers script place port t n).dids ≡ t.dids ++ dids_by port n
  dids_after t (Got l) = same_dids workers _ (having port (Got l) t)
  dids_after t Turned = sym (append-nil t.dids)
  dids_after t Begun = sym (append-nil t.dids)
  dids_after t (Spoke call m errno) = refl
  dids_after t Shut = refl

  pub dids_logged : (t : Standing) (ns : List Note) →
      (standing_from workers script place port t ns).dids ≡ t.dids ++ logged port ns
  dids_logged t [] = sym (append-nil t.dids)
  dids_logged t (n ∷ ns) =
      dids_logged (after workers script place port t n) ns
      ∙ ap (λ ds. ds ++ logged port ns) (dids_after t n)
      ∙ append_assoc t.dids (dids_by port n) (logged port ns)

  closed_after : (t : Standing) (n : Note) → list_any is_closed t.dids ≡ not t.is_open →
      list_any is_closed (after workers script place port t n).dids
      ≡ not (after workers script place port t n).is_open
  closed_after t (Got l) is =
      ap (list_any is_closed) (same_dids workers _ (having port (Got l) t))
      ∙ list_any-append is_closed t.dids (dids_by port (Got l))
      ∙ or_false (list_any is_closed t.dids) ∙ is
      ∙ ap not (sym (same_open workers _ (having port (Got l) t)))
  closed_after t Turned is = is
  closed_after t Begun is = is
  closed_after t (Spoke call m errno) is =
      list_any-append is_closed t.dids (dids_by port (Spoke call m errno))
      ∙ or_false (list_any is_closed t.dids) ∙ is
  closed_after t Shut is =
      list_any-append is_closed t.dids (dids_by port Shut) ∙ or_true (list_any is_closed t.dids)

  pub closed_from : (t : Standing) (ns : List Note) → list_any is_closed t.dids ≡ not t.is_open →
      list_any is_closed (standing_from workers script place port t ns).dids
      ≡ not (standing_from workers script place port t ns).is_open
  closed_from t [] is = is
  closed_from t (n ∷ ns) is =
      closed_from (after workers script place port t n) ns (closed_after t n is)

  pub kinds_push : (queue : ℕ) (t : Standing) (ns : List Note) (n : Note) →
      kinds_from workers script place queue port t (ns ++ n ∷ [])
      ≡ kinds_from workers script place queue port t ns
      ++ map (λ (x : Plea). kind_at (standing_from workers script place port t ns))
      (pleas_told queue n)
  kinds_push queue t [] n = append-nil (map (λ (x : Plea). kind_at t) (pleas_told queue n))
  kinds_push queue t (m ∷ ns) n =
      let u = after workers script place port t m in
      ap (λ ks. map (λ (x : Plea). kind_at t) (pleas_told queue m) ++ ks)
      (kinds_push queue u ns n)
      ∙ sym (append_assoc (map (λ (x : Plea). kind_at t) (pleas_told queue m))
      (kinds_from workers script place queue port u ns)
      (map (λ (x : Plea). kind_at (standing_from workers script place port u ns))
      (pleas_told queue n)))
