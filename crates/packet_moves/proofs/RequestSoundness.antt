-- Requests keep histories legal and sound: what a verdict lets go on is owed, and moved on.
use Rattle.std.proofs.Common.{◌≡◌, ◌≤◌, ◌<◌, ◌+◌, ℕ, List, [], ◌∷◌, ◌++◌}
use Rattle.std.proofs.Common.{Bool, true, false, refl, sym, ap, subst, inr}
use Rattle.std.proofs.Common.{arith, append_assoc}
use Rattle.std.specs.Prelude.{flat_map}
use Rattle.std.proofs.lemmas.Bool.Decides.{nat_tests}
use Rattle.std.proofs.lemmas.List.Sums.{sum_by-cons}
use Rattle.packet_entry.specs.declared.packet.Card.{Card}
use Rattle.packet_entry.specs.Numbers.{last_visit}
use Rattle.hook_chain.specs.declared.chain.Decision.{Decision}
use Rattle.nfqa_msgs.specs.declared.request.Request.{Request}
use Rattle.queue_core.specs.declared.event.Event.TheVariants.{Ask}
use Rattle.queue_core.specs.Closed.{AllShut, asks_shut}
use Rattle.queue_core.specs.Step.{Way, Gone, Open, Decided}
use Rattle.histories.specs.Journeys.{Arrival, going_on, asked_by_some}
use Rattle.histories.specs.States.{entry_of, state_of}
use Rattle.histories.specs.Happenings.{all_handed, queue_of}
use Rattle.hook_chain.specs.Route.{onward_of}
use Rattle.packet_moves.specs.declared.setting.Setting.{Setting}
use Rattle.packet_moves.specs.World.{World}
use Rattle.packet_moves.specs.Moving.{carry_on, CarriesAll}
use Rattle.packet_moves.specs.Messages.{asking, with_ask, IsAsked}
use Rattle.packet_moves.specs.HandedOn.{is_out_of_time, AreInTime}
use Rattle.packet_moves.specs.Soundness.{IsSound}
use Rattle.packet_moves.proofs.LowerLaws.{Laws}
use Rattle.packet_moves.proofs.OnwardCounts.{once}
use Rattle.packet_moves.proofs.MoveSoundness.{enters_so, keeps_on, carry_keeps}

-- ---- what is handed out is owed

abbrev pub owed_of : Setting → Card × Decision → List Arrival
owed_of s h = asked_by_some (onward_of s.tables s.key h.0 h.1) h.0 (h.0.visit + 1)

abbrev pub owed_all : Setting → List (Card × Decision) → List Arrival
owed_all s hs = flat_map (owed_of s) hs

pub owed_are : (s : Setting) (left : List (Card × Way)) → AllShut left →
    flat_map (going_on s.tables s.key) left ≡ owed_all s (all_handed left)
owed_are s [] none = refl
owed_are s ((card, Gone) ∷ left) none = owed_are s left none.1
owed_are s ((card, Open) ∷ left) none = absurd none.0
owed_are s ((card, Decided d) ∷ left) none =
    ap (λ (l : List Arrival). owed_of s (card, d) ++ l) (owed_are s left none.1)

-- a visit that is in time
once_0 : (b : Bool) → once b ≡ 0 → b ≡ false
once_0 true is = absurd (omega (arith, is))
once_0 false is = refl

visit_in_time : (visit : ℕ) → is_out_of_time visit ≡ false →
    (visit < last_visit) × (1 ≤ visit)
visit_in_time visit is = grind (arith, nat_tests)

pub all_keep : Laws → (s : Setting) (hs : List (Card × Decision)) (w after : World)
    (owed : List Arrival) → AreInTime hs → CarriesAll s hs w after →
    IsSound s (owed_all s hs ++ owed) w → IsSound s owed after
all_keep laws s [] w after owed in_time carries is =
    subst (λ (v : World). IsSound s owed v) (sym carries) is
all_keep laws s (h ∷ hs) w after owed in_time (memory, carries) is =
    let both = sum_by-cons (λ (g : Card × Decision). once (is_out_of_time g.0.visit)) h hs in
    let first : once (is_out_of_time h.0.visit) ≡ 0 = omega (arith, both, in_time) in
    let rest : AreInTime hs = omega (arith, both, in_time) in
    let visit = visit_in_time h.0.visit (once_0 _ first) in
    let owes : IsSound s (owed_of s h ++ (owed_all s hs ++ owed)) w =
    subst (λ (l : List Arrival). IsSound s l w)
    (append_assoc (owed_of s h) (owed_all s hs) owed) is in
    all_keep laws s hs (carry_on memory s w h.0 (onward_of s.tables s.key h.0 h.1)).world after
    owed rest carries
    (keeps_on s memory (carry_keeps laws s memory) w h.0 (onward_of s.tables s.key h.0 h.1)
    (owed_all s hs ++ owed) (inr visit.0) (omega (arith, visit.1)) owes)

pub asked_keeps : Laws → (s : Setting) (port call : ℕ) (request : Request) (old new : World)
    (errno : ℕ) → AreInTime (all_handed (asking old port call request).left) →
    IsAsked s port call request old new errno → IsSound s [] old → IsSound s [] new
asked_keeps laws s port call request old new errno in_time asked is =
    let queue = queue_of request in
    let e = entry_of old.entries queue (Ask port call request) in
    let q = state_of old.entries queue in
    let legal = laws.goes_on old.entries e is.legal (record { reply = refl; allowed = tt }) in
    let sound = enters_so laws s old e [] legal is.sound in
    let owed = owed_are s (asking old port call request).left (asks_shut q port call request) in
    let entered : IsSound s (flat_map (going_on s.tables s.key)
    (asking old port call request).left ++ [])
    (with_ask old port call request) = record { legal = legal; sound = sound } in
    all_keep laws s (all_handed (asking old port call request).left)
    (with_ask old port call request) new [] in_time asked.moved
    (subst (λ (l : List Arrival). IsSound s (l ++ []) (with_ask old port call request))
    owed entered)
