-- A plane with one port, which two passes fed: what its end asks for.
use Rattle.std.proofs.Common.{◌≡◌, ◌≤◌, ◌+◌, ℕ, List, [], ◌∷◌, ◌++◌, ◌∙◌, ap, sym, subst, arith}
use Rattle.std.proofs.Common.{inl, inr}
use Rattle.std.specs.Prelude.{map, nat_eq}
use Rattle.std.specs.Prelude.{if◌then◌else◌}
use Rattle.std.proofs.lemmas.Bool.{cases_Bool}
use Rattle.std.proofs.lemmas.List.Sums.{sum_by-cons}
use Rattle.turn_lock.specs.Parts.{Tree}
use Rattle.packet_moves.specs.declared.setting.Setting.{Setting}
use Rattle.place_rows.specs.declared.ending.PortReceiver.{PortReceiver}
use Rattle.place_rows.specs.Joining.{AreWhole}
use Rattle.place_rows.specs.Rows.{Known}
use Rattle.place_turns.specs.Trails.{parts_of}
use Rattle.plane.specs.declared.opened.Opened.{Opened}
use Rattle.plane.specs.Closings.{receiver_of}
use Rattle.plane.specs.Feeders.{HaveThePartsOf}
use Rattle.plane.specs.Opening.{IsOpened, all_rows}
use Rattle.plane.specs.Passes.{PortView}
use Rattle.plane.specs.Planes.{places_of}
use Rattle.plane.specs.Remaining.{times_in}

-- ---- no port is there twice

abbrev once : ℕ → ℕ → ℕ
once port p = if nat_eq p port then 1 else 0

at_most : (port p : ℕ) → once port p ≤ 1
at_most port p =
    elim (cases_Bool (nat_eq p port)) [
      | inl h ↦ rw h (omega arith)
      | inr h ↦ rw h (omega arith)
    ]

times : (port : ℕ) (p : PortView) → times_in port (p ∷ []) ≡ once port p.port + 0
times port p = sum_by-cons (λ (r : PortReceiver). once port r.port) (receiver_of p) []

pub one_port : (ps closed : List PortView) (q : ℕ) → map (λ (p : PortView). p.port) ps ≡ q ∷ [] →
    closed ≡ [] → (port : ℕ) → times_in port (ps ++ closed) ≤ 1
one_port [] closed q are none port = absurd (cc are)
one_port (p ∷ []) closed q are none port =
    subst (λ (l : List PortView). times_in port (p ∷ l) ≤ 1) (sym none)
    (omega (arith, at_most port p.port, times port p))
one_port (p ∷ r ∷ ps) closed q are none port = absurd (cc are)

-- ---- the passes have the whole of each lock

pub opened_whole : (places : ℕ) (order : List ℕ) (s : Setting) (o : Opened)
    (closed : List PortView) → IsOpened places order s o.plane o.feeder o.ports o.gauge →
    closed ≡ [] → AreWhole (places_of o.plane) (all_rows o.feeder o.ports closed)
opened_whole places order s o closed is none =
    subst (λ (l : List PortView). AreWhole (places_of o.plane) (all_rows o.feeder o.ports l))
    (sym none)
    (subst (λ n. AreWhole n (all_rows o.feeder o.ports [])) (sym is.as_many) is.whole)

-- what is known of parts that stay
abbrev PartsStay : Type 0
PartsStay = (places : ℕ) (olds news : List (List Known)) →
    map parts_of news ≡ map parts_of olds → AreWhole places olds → AreWhole places news

-- a pass that was split, and joined again once each of the two fed something
pub fed_whole : PartsStay → (places : ℕ) (old kept made one two both : List Known)
    (rows : List (List Known)) → HaveThePartsOf kept made old → parts_of one ≡ parts_of kept →
    parts_of two ≡ parts_of made → HaveThePartsOf one two both →
    AreWhole places (old ∷ rows) → AreWhole places (both ∷ rows)
fed_whole stay places old kept made one two both rows split first second joined whole =
    let halves : AreWhole places (kept ∷ made ∷ rows) = λ k few. split k rows ∙ whole k few in
    let same : map parts_of (one ∷ two ∷ rows) ≡ map parts_of (kept ∷ made ∷ rows) =
    ap (λ (ts : List Tree). ts ∷ parts_of two ∷ map parts_of rows) first
    ∙ ap (λ (ts : List Tree). parts_of kept ∷ ts ∷ map parts_of rows) second in
    let still = stay places (kept ∷ made ∷ rows) (one ∷ two ∷ rows) same halves in
    λ k few. sym (joined k rows) ∙ still k few
