-- What a port notes more in a stage, and the kinds of the requests among it.
use Rattle.std.proofs.Common.{◌++◌, ◌+◌, ◌∙◌, ◌∷◌, ◌≡◌, List, [], ap, append-nil, append_assoc}
use Rattle.std.proofs.Common.{arith, length, refl, subst, suc, sym, ℕ}
use Rattle.std.proofs.lemmas.List.{length-append}
use Rattle.std.specs.Prelude.{flat_map, map}
use Rattle.inspector_script.specs.Scripts.{ScriptValue}
use Rattle.run_parts.specs.Log.{Note, Standing, after, standing, standing_from, start}
use Rattle.nfqa_msgs.specs.NoticeTexts.{fits}
use Rattle.run_parts.specs.Order.{Kind, kind_at, kinds_from}
use Rattle.run_parts.specs.Ports.{place_in}
use Rattle.run_parts.specs.Requests.{Plea, pleas_told}
use Rattle.live_runs.specs.Stages.{Adds, AreRanked, IsRanked}

module _ (workers : ℕ) (script : ScriptValue) (place queue port : ℕ) where
  pub kinds_append : (t : Standing) (ns ms : List Note) →
      kinds_from workers script place queue port t (ns ++ ms)
      ≡ kinds_from workers script place queue port t ns
      ++ kinds_from workers script place queue port
      (standing_from workers script place port t ns) ms
  kinds_append t [] ms = refl
  kinds_append t (n ∷ ns) ms =
      let u = after workers script place port t n in
      ap (λ ks. map (λ (x : Plea). kind_at t) (pleas_told queue n) ++ ks) (kinds_append u ns ms)
      ∙ sym (append_assoc (map (λ (x : Plea). kind_at t) (pleas_told queue n))
      (kinds_from workers script place queue port u ns)
      (kinds_from workers script place queue port
      (standing_from workers script place port u ns) ms))

  -- there is one for each request
  pub kinds_long : (t : Standing) (ns : List Note) →
      length (kinds_from workers script place queue port t ns)
      ≡ length (flat_map (pleas_told queue) ns)
  kinds_long t [] = refl
  kinds_long t (n ∷ ns) =
      let u = after workers script place port t n in
      length-append (map (λ (x : Plea). kind_at t) (pleas_told queue n))
      (kinds_from workers script place queue port u ns)
      ∙ ap (λ k. k + length (kinds_from workers script place queue port u ns))
      (map_long (pleas_told queue n))
      ∙ ap (λ k. length (pleas_told queue n) + k) (kinds_long u ns)
      ∙ sym (length-append (pleas_told queue n) (flat_map (pleas_told queue) ns))
    where
      map_long : (ps : List Plea) → length (map (λ (x : Plea). kind_at t) ps) ≡ length ps
      map_long [] = refl
      map_long (p ∷ ps) = let so = map_long ps in
          let more : suc (length (map (λ (x : Plea). kind_at t) ps)) ≡ suc (length ps) =
          omega (arith, so) in more

ranked_more : (ports : List ℕ) (early late port : ℕ) (ks ls : List Kind) →
    AreRanked ports early late port ks → AreRanked ports early late port ls →
    AreRanked ports early late port (ks ++ ls)
ranked_more ports early late port [] ls one two = two
ranked_more ports early late port (k ∷ ks) ls one two =
    (one.0, ranked_more ports early late port ks ls one.1 two)

all_ranked : (ports : List ℕ) (early late port : ℕ) (k : Kind) (ps : List Plea) →
    IsRanked ports early late port k →
    AreRanked ports early late port (map (λ (x : Plea). k) ps)
all_ranked ports early late port k [] is = tt
all_ranked ports early late port k (p ∷ ps) is =
    (is, all_ranked ports early late port k ps is)

module _ (workers : ℕ) (script : ScriptValue) (early late port : ℕ) where
  abbrev place : ℕ
  place = place_in port script.ports

  abbrev at : List Note → Standing
  at notes = standing workers script place port notes

  pub adds_nothing : (was : List Note) → Adds workers script early late port was was
  adds_nothing was = record { more = []; is = sym (append-nil was); kinds = λ queue. tt }

  adds_push : (was now : List Note) (n : Note) →
      ((queue : ℕ) → AreRanked script.ports early late port
      (map (λ (x : Plea). kind_at (at now)) (pleas_told queue n))) →
      Adds workers script early late port was now →
      Adds workers script early late port was (now ++ n ∷ [])
  adds_push was now n fits is = record {
    more = is.more ++ n ∷ [];
    is = ap (λ ns. ns ++ n ∷ []) is.is ∙ append_assoc was is.more (n ∷ []);
    kinds = λ queue. subst (AreRanked script.ports early late port)
        (sym (kinds_append workers script place queue port (at was) is.more (n ∷ [])))
        (ranked_more script.ports early late port
        (kinds_from workers script place queue port (at was) is.more)
        (kinds_from workers script place queue port
        (standing_from workers script place port (at was) is.more) (n ∷ []))
        (is.kinds queue)
        (subst (λ t. AreRanked script.ports early late port
        (kinds_from workers script place queue port t (n ∷ [])))
        (ap at is.is ∙ stand_on (start script place) was is.more)
        (subst (AreRanked script.ports early late port)
        (sym (append-nil (map (λ (x : Plea). kind_at (at now)) (pleas_told queue n))))
        (fits queue))));
  }
    where
      stand_on : (t : Standing) (ns ms : List Note) →
          standing_from workers script place port t (ns ++ ms)
          ≡ standing_from workers script place port
          (standing_from workers script place port t ns) ms
      stand_on t [] ms = refl
      stand_on t (n ∷ ns) ms = stand_on (after workers script place port t n) ns ms

  -- a message of this kind
  pub adds_spoke : (was now : List Note) (n : Note) (k : Kind) → kind_at (at now) ≡ k →
      IsRanked script.ports early late port k → Adds workers script early late port was now →
      Adds workers script early late port was (now ++ n ∷ [])
  adds_spoke was now n k same fits is = adds_push was now n
      (λ queue. subst (λ j. AreRanked script.ports early late port
      (map (λ (x : Plea). j) (pleas_told queue n))) (sym same)
      (all_ranked script.ports early late port k (pleas_told queue n) fits)) is

  -- a note that is no message
  pub adds_quiet : (was now : List Note) (n : Note) → ((queue : ℕ) → pleas_told queue n ≡ []) →
      Adds workers script early late port was now →
      Adds workers script early late port was (now ++ n ∷ [])
  adds_quiet was now n none is = adds_push was now n
      (λ queue. subst (λ ps. AreRanked script.ports early late port
      (map (λ (x : Plea). kind_at (at now)) ps)) (sym (none queue)) tt) is
