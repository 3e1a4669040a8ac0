-- Kinds of requests, dealt into rows.
use Rattle.std.proofs.Common.{◌≡◌, ℕ, List, [], ◌∷◌, ◌++◌, None, Bool, true, false, refl, sym}
use Rattle.std.proofs.Common.{ap, ◌∙◌, subst, cond, append-nil}
use Rattle.std.specs.Prelude.{◌==◌, ◌||◌, nat_eq, map, flat_map, filter}
use Rattle.std.specs.List.{list_any}
use Rattle.std.specs.BTreeMap.{get}
use Rattle.std.proofs.lemmas.Bool.{eqb-true}
use Rattle.std.proofs.lemmas.Grind.{flat_map-append}
use Rattle.histories.specs.declared.histories.Histories.{Histories}
use Rattle.inspector_script.specs.Scripts.{ScriptValue}
use Rattle.run_parts.specs.Log.{Note}
use Rattle.run_parts.specs.Order.{kinds_told}
use Rattle.run_parts.specs.Ports.{AreApart}
use Rattle.log_audit.specs.Walking.{Timed, is_at, kinds_at}
use Rattle.port_audit.specs.declared.dealing.MessageKind.{MessageKind}
use Rattle.port_audit.specs.declared.dealing.Side.{Side}
use Rattle.port_audit.specs.declared.kinds.KindAt.{KindAt}
use Rattle.port_audit.specs.Dealing.{RowMap, AreKept, GrowsBy, IsKept, row_in, side, side_cmp}
use Rattle.port_audit.specs.Kinds.{AreKinds, kind_of, kinds_in, kinds_of_row}
use Rattle.port_audit.specs.Makers.{HaveLogs}
use Rattle.log_audit.specs.Judged.{AllHaveKinds, AreDealt, AreJudged, AreJudgedByPort, kinds_dealt}
use Rattle.log_audit.specs.PortWalks.{timed_of}
use Rattle.log_audit.specs.declared.judging.PortKinds.{PortKinds}

wrong : {A : Type 0} → false ≡ true → A
wrong {A} e = absurd cc

-- ---- port by port

pub none_dealt : (rows : RowMap MessageKind) → ((s : Side) → get side_cmp rows s ≡ None) →
    AreDealt [] rows
none_dealt rows none = record {
  are = λ port queue. ap row_in (none (side port queue));
  kept = λ s. subst IsKept (sym (none s)) tt;
}

pub dealt_on : (ks : List PortKinds) (k : PortKinds) (old new : RowMap MessageKind) →
    AreDealt ks old → GrowsBy k.port (λ queue. kinds_in queue k.kinds.items) old new →
    (AreKept old → AreKept new) → AreDealt (ks ++ k ∷ []) new
dealt_on ks k old new dealt grows kept = record {
  are = λ port queue.
      let f : PortKinds → List MessageKind =
      λ j. cond (port == j.port) (kinds_in queue j.kinds.items) [] in
      grows port queue ∙ ap (λ xs. xs ++ f k) (dealt.are port queue)
      ∙ ap (λ xs. flat_map f ks ++ xs) (sym (append-nil (f k)))
      ∙ sym (flat_map-append f ks (k ∷ []));
  kept = kept dealt.kept;
}

-- ---- of one port, and of others

abbrev port_of : PortKinds → ℕ
port_of k = k.port

none_of : (port queue : ℕ) (ks : List PortKinds) →
    list_any (nat_eq port) (map port_of ks) ≡ false → kinds_dealt ks port queue ≡ []
none_of port queue [] other = refl
none_of port queue (k ∷ ks) other = by (none_of port queue ks) (port == k.port) other
  where
    by : (list_any (nat_eq port) (map port_of ks) ≡ false → kinds_dealt ks port queue ≡ []) →
        (b : Bool) → (b || list_any (nat_eq port) (map port_of ks)) ≡ false →
        cond b (kinds_in queue k.kinds.items) [] ++ kinds_dealt ks port queue ≡ []
    by more true other = wrong (sym other)
    by more false other = more other

same_kinds : (queue : ℕ) (rs : List KindAt) →
    kinds_at queue (map timed_of rs) ≡ map kind_of (kinds_in queue rs)
same_kinds queue [] = refl
same_kinds queue (r ∷ rs) = by (same_kinds queue rs) (r.queue == queue)
  where
    by : kinds_at queue (map timed_of rs) ≡ map kind_of (kinds_in queue rs) → (b : Bool) →
        map (λ (t : Timed). t.kind)
        (cond b (timed_of r ∷ filter (is_at queue) (map timed_of rs))
        (filter (is_at queue) (map timed_of rs)))
        ≡ map kind_of (cond b (r.kind ∷ []) [] ++ kinds_in queue rs)
    by more true = ap (λ xs. kind_of r.kind ∷ xs) more
    by more false = more

module _ (script : ScriptValue) (notes : ℕ → List Note) (port queue : ℕ) where
  told_in : (ks : List PortKinds) → AreApart (map port_of ks) → AllHaveKinds script notes ks →
      list_any (nat_eq port) (map port_of ks) ≡ true →
      map kind_of (kinds_dealt ks port queue) ≡ kinds_told 1 script queue port (notes port)
  told_in [] apart all among = wrong among
  told_in (k ∷ ks) apart all among =
      by (told_in ks apart.1 all.1) (port == k.port) refl among
    where
      by : (list_any (nat_eq port) (map port_of ks) ≡ true →
          map kind_of (kinds_dealt ks port queue)
          ≡ kinds_told 1 script queue port (notes port)) →
          (b : Bool) → (port == k.port) ≡ b →
          (b || list_any (nat_eq port) (map port_of ks)) ≡ true →
          map kind_of (cond b (kinds_in queue k.kinds.items) [] ++ kinds_dealt ks port queue)
          ≡ kinds_told 1 script queue port (notes port)
      by more true same among =
          let is = eqb-true port k.port same in
          ap (λ xs. map kind_of (kinds_in queue k.kinds.items ++ xs))
          (none_of port queue ks
          (subst (λ q. list_any (nat_eq q) (map port_of ks) ≡ false) (sym is) apart.0))
          ∙ ap (map kind_of) (append-nil (kinds_in queue k.kinds.items))
          ∙ sym (same_kinds queue k.kinds.items)
          ∙ sym (all.0 queue)
          ∙ ap (λ q. kinds_told 1 script queue q (notes q)) (sym is)
      by more false same among = more among

-- ---- of all

all_kinds : (script : ScriptValue) (h : Histories) (notes : ℕ → List Note) (ks : List PortKinds)
    (rows : RowMap MessageKind) → AreApart script.ports → map port_of ks ≡ script.ports →
    AreDealt ks rows → HaveLogs script h notes → AllHaveKinds script notes ks →
    AreKinds script notes rows
all_kinds script h notes ks rows apart same dealt have all = record {
  are = λ port queue. ap kinds_of_row (dealt.are port queue)
      ∙ by port queue (list_any (nat_eq port) (map port_of ks)) refl;
  kept = dealt.kept;
}
  where
    by : (port queue : ℕ) (b : Bool) → list_any (nat_eq port) (map port_of ks) ≡ b →
        map kind_of (kinds_dealt ks port queue) ≡ kinds_told 1 script queue port (notes port)
    by port queue true among =
        told_in script notes port queue ks (subst AreApart (sym same) apart) all among
    by port queue false other =
        ap (map kind_of) (none_of port queue ks other)
        ∙ ap (kinds_told 1 script queue port) (sym (have.logs.others port
        (ap (list_any (nat_eq port)) (sym same) ∙ other)))

pub in_rows : (script : ScriptValue) (h : Histories) (ks : List PortKinds)
    (rows : RowMap MessageKind) → AreApart script.ports → AreDealt ks rows →
    AreJudgedByPort script h ks → AreJudged script h rows
in_rows script h ks rows apart dealt by_port = record {
  notes = by_port.notes;
  told = by_port.told;
  kinds = λ ns have. all_kinds script h ns ks rows apart by_port.ports dealt have
      (by_port.each ns have);
}
