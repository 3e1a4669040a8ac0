-- A notice that is received.
use Rattle.std.proofs.Common.{◌≡◌, ◌≢◌, ◌<◌, ◌∙◌, ℕ, List, []}
use Rattle.std.proofs.Common.{◌∷◌, ◌++◌, length, Option, Some, None}
use Rattle.std.proofs.Common.{Bool, true, false, refl, sym, ap, subst, arith, inl, inr, cond, min}
use Rattle.std.specs.Prelude.{count_by, slice_index_or, ◌==◌, option_map, IsSomeAnd, if◌then◌else◌}
use Rattle.std.proofs.Math.Path.{fun_ext}
use Rattle.std.proofs.lemmas.Bool.Decides.{eqb_tells}
use Rattle.std.proofs.lemmas.List.Sums.{sum_by-append}
use Rattle.packet_entry.specs.declared.letter.Letter.{Letter}
use Rattle.queue_core.specs.Numbers.{largest_count}
use Rattle.histories.specs.declared.log.Did.{Did}
use Rattle.histories.specs.declared.log.Did.TheVariants.{Received}
use Rattle.histories.specs.Logs.{is_received}
use Rattle.script_lines.specs.declared.ask.Ask.{Ask}
use Rattle.inspector_script.specs.Scripts.{ScriptValue, next_count}
use Rattle.packet_moves.specs.declared.setting.Setting.{Setting}
use Rattle.packet_moves.specs.World.{World, Port, at_port, changed_at}
use Rattle.packet_moves.specs.World.{received, received_from, first_of}
use Rattle.packet_moves.specs.Soundness.{IsSound}
use Rattle.run_parts.specs.Log.{asks_for}
use Rattle.nfqa_msgs.specs.NoticeTexts.{told_exactly}
use Rattle.solo_schedule.specs.Schedule.{letters_at, received_in}
use Rattle.solo_run.specs.RunState.{IsGoing, Keeps, ReceivesFirst, mind_of}
use Rattle.solo_run.specs.RunState.{mind_at, port_at, one_notice}
use Rattle.solo_run.specs.declared.inspector.Inspector.{Inspector}
use Rattle.solo_run.proofs.RunProgress.{goes_at}

-- ---- nothing to receive

none_received : (p : Port) (letters : List Letter) → None ≡ first_of letters →
    received_from letters p ≡ p
none_received p [] is = refl
none_received p (l ∷ ls) is = absurd (cc)

no_letters : (letters : List Letter) → None ≡ first_of letters → letters ≡ []
no_letters [] is = refl
no_letters (l ∷ ls) is = absurd (cc)

same_port : (o : Option Port) → IsSomeAnd o (λ p. None ≡ first_of p.letters) →
    option_map received o ≡ o
same_port None has = absurd has
same_port (Some p) has = ap (λ (q : Port). some q) (none_received p p.letters has)
  where
    some : Port → Option Port
    some q = Some q

either_same : (b : Bool) (x y : Option Port) → x ≡ y → (if b then x else y) ≡ y
either_same true x y same = same
either_same false x y same = refl

same_at : (ports : ℕ → Option Port) (port : ℕ) →
    IsSomeAnd (ports port) (λ p. None ≡ first_of p.letters) →
    (p : ℕ) → changed_at port received ports p ≡ ports p
same_at ports port has p =
    elim (eqb_tells p port) [
      | inl (yes_, same) ↦
          either_same (p == port) (option_map received (ports p)) (ports p)
          (same_port (ports p) (subst (λ (n : ℕ).
          IsSomeAnd (ports n) (λ q. None ≡ first_of q.letters)) (sym same) has))
      | inr (no_, apart) ↦ rw no_ refl
    ]

pub nothing_received : (old new : World) (port : ℕ) →
    IsSomeAnd (old.ports port) (λ p. None ≡ first_of p.letters) →
    new ≡ at_port port received old → new ≡ old
nothing_received old new port has is =
    is ∙ ap (λ (ports : ℕ → Option Port). record old { ports = ports })
    (fun_ext (same_at old.ports port has))

pub goes_unchanged : (script : ScriptValue) (s : Setting) (old new : World)
    (minds : List Inspector) →
    new ≡ old → IsGoing script s old minds → IsGoing script s new minds
goes_unchanged script s old new minds is going =
    subst (λ (v : World). IsGoing script s v minds) (sym is) going

pub keeps_unchanged : (old new : World) → new ≡ old → Keeps old new
keeps_unchanged old new is =
    subst (λ (v : World). Keeps old v) (sym is) (record { fed = refl; open_ports = λ p. refl })

none_first : (script : ScriptValue) (place port : ℕ) (old new : World) (o : Option Port) →
    IsSomeAnd o (λ p. None ≡ first_of p.letters) → new ≡ old →
    ReceivesFirst script place port (letters_at o) None old new
none_first script place port old new None has is = absurd has
none_first script place port old new (Some p) has is =
    subst (λ (l : List Letter). ReceivesFirst script place port l None old new)
    (sym (no_letters p.letters has)) (refl, is)

pub receives_none : (script : ScriptValue) (place port : ℕ) (old new : World) →
    IsSomeAnd (old.ports port) (λ p. None ≡ first_of p.letters) → new ≡ old →
    ReceivesFirst script place port (letters_at (old.ports port)) None old new
receives_none script place port old new has is =
    none_first script place port old new (old.ports port) has is

-- ---- a notice

count_so : (dids : List Did) (queue number visit : ℕ) →
    min (count_by is_received (dids ++ Received queue number visit ∷ [])) largest_count
    ≡ next_count (min (count_by is_received dids) largest_count)
count_so dids queue number visit =
    omega (
      arith,
      sum_by-append (λ (d : Did). cond (is_received d) 1 0) dids
          (Received queue number visit ∷ []),
    )

some_mind : (place : ℕ) (p : Port) (letters : List Letter) (letter : Letter) →
    Some letter ≡ first_of letters →
    mind_of place (Some (received_from letters p)) ≡ one_notice (mind_of place (Some p))
some_mind place p [] letter is = absurd (cc)
some_mind place p (l ∷ ls) letter is =
    rw (count_so p.dids l.queue l.number l.visit) refl

one_mind : (place : ℕ) (letter : Letter) (o : Option Port) →
    IsSomeAnd o (λ p. Some letter ≡ first_of p.letters) →
    mind_of place (option_map received o) ≡ one_notice (mind_of place o)
one_mind place letter None has = absurd has
one_mind place letter (Some p) has = some_mind place p p.letters letter has

received_this : (w : World) (port place : ℕ) (letter : Letter) →
    IsSomeAnd (w.ports port) (λ p. Some letter ≡ first_of p.letters) →
    mind_of place ((at_port port received w).ports port) ≡ one_notice (mind_of place (w.ports port))
received_this w port place letter has =
    elim (eqb_tells port port) [
      | inl (yes_, same) ↦ rw yes_ (one_mind place letter (w.ports port) has)
      | inr (no_, apart) ↦ absurd (apart refl)
    ]

received_others : (w : World) (port place p : ℕ) → p ≢ port →
    mind_of place ((at_port port received w).ports p) ≡ mind_of place (w.ports p)
received_others w port place p other =
    elim (eqb_tells p port) [
      | inl (yes_, same) ↦ absurd (other same)
      | inr (no_, apart) ↦ rw no_ refl
    ]

pub received_keeps : (old new : World) (port : ℕ) (letter : Letter) →
    IsSomeAnd (old.ports port) (λ p. Some letter ≡ first_of p.letters) →
    new ≡ at_port port received old → Keeps old new
received_keeps old new port letter has is =
    subst (λ (v : World). Keeps old v) (sym is) (record {
      fed = refl;
      open_ports = λ p.
          elim (eqb_tells p port) [
            | inl (yes_, same) ↦
                rw same (ap (λ (i : Inspector). i.is_open) (received_this old port 0 letter has))
            | inr (no_, apart) ↦
                ap (λ (i : Inspector). i.is_open) (received_others old port 0 p apart)
          ];
    })

pub received_goes : (script : ScriptValue) (s : Setting) (old new : World)
    (minds after : List Inspector) (place : ℕ) (letter : Letter) → place < length script.ports →
    IsGoing script s old minds →
    IsSomeAnd (old.ports (port_at script place)) (λ p. Some letter ≡ first_of p.letters) →
    new ≡ at_port (port_at script place) received old → IsSound s [] new →
    length after ≡ length minds →
    ((k : ℕ) (d : Inspector) → k ≢ place → slice_index_or after k d ≡ slice_index_or minds k d) →
    ((d : Inspector) → slice_index_or after place d ≡ one_notice (slice_index_or minds place d)) →
    IsGoing script s new after
received_goes script s old new minds after place letter within going has is sound many others this =
    let port = port_at script place in
    goes_at script s old new minds after place one_notice within going
    (ap (λ (v : World). v.lost) is ∙ going.whole) sound many others this
    (λ k p other. ap (λ (v : World). mind_of k (v.ports p)) is ∙ received_others old port k p other)
    (ap (λ (v : World). mind_at script v place) is ∙ received_this old port place letter has)

first_is : (letters : List Letter) (letter : Letter) → Some letter ≡ first_of letters →
    (script : ScriptValue) (place port : ℕ) (asks : List Ask) (old new : World) →
    asks ≡ asks_for script place (received_in (new.ports port)) (told_exactly letter.bytes) →
    new ≡ at_port port received old →
    ReceivesFirst script place port letters (Some asks) old new
first_is [] letter first script place port asks old new asked is = absurd (cc)
first_is (l ∷ ls) letter first script place port asks old new asked is =
    let same : letter ≡ l = cc in (
      ap (λ (as_ : List Ask). some as_) (asked ∙ ap (λ (k : Letter).
          asks_for script place (received_in (new.ports port)) (told_exactly k.bytes)) same),
      is,
    )
  where
    some : List Ask → Option (List Ask)
    some as_ = Some as_

some_first : (script : ScriptValue) (place port : ℕ) (asks : List Ask) (letter : Letter)
    (old new : World) (o : Option Port) → IsSomeAnd o (λ p. Some letter ≡ first_of p.letters) →
    asks ≡ asks_for script place (received_in (new.ports port)) (told_exactly letter.bytes) →
    new ≡ at_port port received old →
    ReceivesFirst script place port (letters_at o) (Some asks) old new
some_first script place port asks letter old new None has asked is = absurd has
some_first script place port asks letter old new (Some p) has asked is =
    first_is p.letters letter has script place port asks old new asked is

pub receives_some : (script : ScriptValue) (s : Setting) (place : ℕ) (asks : List Ask)
    (letter : Letter) (old new : World) (minds : List Inspector) → place < length script.ports →
    IsGoing script s old minds →
    IsSomeAnd (old.ports (port_at script place)) (λ p. Some letter ≡ first_of p.letters) →
    ((d : Inspector) → asks ≡ asks_for script place
    (next_count (slice_index_or minds place d).machine.received) (told_exactly letter.bytes)) →
    new ≡ at_port (port_at script place) received old →
    ReceivesFirst script place (port_at script place)
    (letters_at (old.ports (port_at script place)))
    (Some asks) old new
receives_some script s place asks letter old new minds within going has asked is =
    let port = port_at script place in
    let m = mind_at script old place in
    let this : mind_of place (new.ports port) ≡ one_notice m =
    ap (λ (v : World). mind_of place (v.ports port)) is
    ∙ received_this old port place letter has in
    let counted : (slice_index_or minds place m).machine.received ≡ m.machine.received =
    ap (λ (i : Inspector). i.machine.received) (going.each place m within) in
    some_first script place port asks letter old new (old.ports port) has
    (asked m
    ∙ ap (λ (n : ℕ). asks_for script place (next_count n) (told_exactly letter.bytes)) counted
    ∙ ap (λ (i : Inspector). asks_for script place i.machine.received (told_exactly letter.bytes))
    (sym this))
    is
