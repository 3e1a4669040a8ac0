-- Requests leave their pass balanced: what a verdict lets go on is owed, and moved on.
use Rattle.std.proofs.Common.{◌≡◌, ◌≤◌, ◌<◌, ◌+◌, ℕ, List, [], ◌∷◌, ◌++◌, Option}
use Rattle.std.proofs.Common.{Some, None, Bool, true, false, refl, sym, ap, subst, inr, arith, cond}
use Rattle.std.proofs.Common.{append_assoc}
use Rattle.std.specs.Prelude.{flat_map}
use Rattle.std.proofs.lemmas.Bool.Decides.{nat_tests}
use Rattle.std.proofs.lemmas.List.Sums.{sum_by-cons}
use Rattle.std.proofs.lemmas.List.Elements.{filter-append}
use Rattle.packet_entry.specs.declared.packet.Card.{Card}
use Rattle.packet_entry.specs.Numbers.{last_visit}
use Rattle.hook_chain.specs.declared.chain.Decision.{Decision}
use Rattle.hook_chain.specs.Route.{onward_of}
use Rattle.netlink_codec.specs.Messages.{NetlinkMessage}
use Rattle.nfqa_msgs.specs.declared.request.Request.{Request}
use Rattle.nfqa_msgs.specs.declared.request.Decoded.{Decoded}
use Rattle.nfqa_msgs.specs.declared.request.Decoded.TheVariants as decoded
use Rattle.nfqa_msgs.specs.RequestReading as reading
use Rattle.queue_core.specs.declared.event.Event.TheVariants.{Ask}
use Rattle.queue_core.specs.Closed.{AllShut, asks_shut}
use Rattle.queue_core.specs.Step.{Way, Gone, Open, Decided, step}
use Rattle.queue_core.specs.Step.{refusal}
use Rattle.histories.specs.declared.entry.Entry.{Entry}
use Rattle.histories.specs.declared.histories.Lost.{Lost}
use Rattle.histories.specs.declared.log.Did.{Did}
use Rattle.histories.specs.Happenings.{all_handed, queue_of}
use Rattle.histories.specs.History.{AreLegal, IsLegal, history, is_of}
use Rattle.histories.specs.Journeys.{Arrival, going_on, asked_by_some}
use Rattle.histories.specs.States.{entry_of, state_of}
use Rattle.histories.specs.Places.{place_for}
use Rattle.packet_moves.specs.declared.setting.Setting.{Setting}
use Rattle.packet_moves.specs.Calls.{next_call}
use Rattle.packet_moves.specs.HandedOn.{is_out_of_time, AreInTime}
use Rattle.place_rows.specs.Shares.{IsBalancedBut}
use Rattle.place_turns.specs.Trails.{Trail}
use Rattle.place_turns.specs.Messages.{CarriesAll, IsAsked, CarriesOut, Sends}
use Rattle.place_turns.proofs.LowerLaws.{Laws}
use Rattle.place_turns.proofs.OnwardBalance.{IsEven, carry_keeps}

-- ---- what is handed out is owed

abbrev pub owed_of : Setting → Card × Decision → List Arrival
owed_of s h = asked_by_some (onward_of s.tables s.key h.0 h.1) h.0 (h.0.visit + 1)

abbrev pub owed_all : Setting → List (Card × Decision) → List Arrival
owed_all s hs = flat_map (owed_of s) hs

owed_are : (s : Setting) (left : List (Card × Way)) → AllShut left →
    flat_map (going_on s.tables s.key) left ≡ owed_all s (all_handed left)
owed_are s [] none = refl
owed_are s ((card, Gone) ∷ left) none = owed_are s left none.1
owed_are s ((card, Open) ∷ left) none = absurd none.0
owed_are s ((card, Decided d) ∷ left) none =
    ap (λ (l : List Arrival). owed_of s (card, d) ++ l) (owed_are s left none.1)

-- a visit that is in time
abbrev once : Bool → ℕ
once b = cond b 1 0

once_0 : (b : Bool) → once b ≡ 0 → b ≡ false
once_0 true is = absurd (omega (arith, is))
once_0 false is = refl

visit_in_time : (visit : ℕ) → is_out_of_time visit ≡ false →
    (visit < last_visit) × (1 ≤ visit)
visit_in_time visit is = grind (arith, nat_tests)

-- of packets that are in time, all but the first are
pub rest_in_time : (h : Card × Decision) (hs : List (Card × Decision)) → AreInTime (h ∷ hs) →
    AreInTime hs
rest_in_time h hs in_time =
    let both =
    sum_by-cons (λ (g : Card × Decision). once (is_out_of_time g.0.visit)) h hs in
    omega (arith, both, in_time)

all_keep : Laws → (places : ℕ) (s : Setting) (entered : List Card) (hs : List (Card × Decision))
    (t u : Trail) (owed : List Arrival) → AreInTime hs → CarriesAll places s hs t u →
    IsEven s entered (owed_all s hs ++ owed) t → IsEven s entered owed u
all_keep laws places s entered [] t u owed in_time carries is =
    subst (λ (v : Trail). IsEven s entered owed v) (sym carries) is
all_keep laws places s entered (h ∷ hs) t u owed in_time carries is =
    let both =
    sum_by-cons (λ (g : Card × Decision). once (is_out_of_time g.0.visit)) h hs in
    let first : once (is_out_of_time h.0.visit) ≡ 0 = omega (arith, both, in_time) in
    let rest : AreInTime hs = omega (arith, both, in_time) in
    let visit = visit_in_time h.0.visit (once_0 _ first) in
    let owes : IsEven s entered (owed_of s h ++ (owed_all s hs ++ owed)) t =
    subst (λ (l : List Arrival). IsEven s entered l t)
    (append_assoc (owed_of s h) (owed_all s hs) owed) is in
    all_keep laws places s entered hs carries.between u owed rest carries.rest
    (carry_keeps laws places s entered carries.memory t carries.between h.0
    (onward_of s.tables s.key h.0 h.1) carries.ended (owed_all s hs ++ owed) (inr visit.0)
    (omega (arith, visit.1)) owes carries.first)

-- ---- a message

-- a beginning of legal histories is legal
legal_front : Laws → (es fs : List Entry) → AreLegal (es ++ fs) → AreLegal es
legal_front laws es fs legal queue =
    laws.front (history queue es) (history queue fs)
    (subst IsLegal (filter-append (is_of queue) es fs) (legal queue))

pub asked_keeps : Laws → (places : ℕ) (s : Setting) (entered : List Card) (port call : ℕ)
    (request : Request) (t u : Trail) (errno : ℕ) →
    IsAsked places s port call request t u errno → IsEven s entered [] t →
    IsEven s entered [] u
asked_keeps laws places s entered port call request t u errno asked is =
    let queue = queue_of request in
    let found = asked.found in
    let q = state_of found queue in
    let e = entry_of found queue (Ask port call request) in
    let left = (step q (Ask port call request)).left in
    let in_time =
    laws.request q port call request
    (laws.in_time found (legal_front laws found (e ∷ []) asked.turn.turn.legal) queue) in
    let between =
    laws.appends s [] entered t.known asked.between.known t.lost
    (place_for (queue_of request) places)
    found e is asked.turn.turn in
    all_keep laws places s entered (all_handed left) asked.between u [] in_time asked.moved
    (subst (λ (l : List Arrival). IsEven s entered (l ++ []) asked.between)
    (owed_are s left (asks_shut q port call request))
    (subst (λ (lost : List Lost).
    IsBalancedBut s (flat_map (going_on s.tables s.key) left ++ []) entered asked.between.known
    lost) (sym asked.turn.same) between))

out_keeps : Laws → (places : ℕ) (s : Setting) (entered : List Card) (port call : ℕ) (d : Decoded)
    (t u : Trail) (errno : ℕ) → CarriesOut places s port call d t u errno →
    IsEven s entered [] t → IsEven s entered [] u
out_keeps laws places s entered port call decoded.Nothing t u errno out is =
    subst (λ (v : Trail). IsEven s entered [] v) (sym out.1) is
out_keeps laws places s entered port call (decoded.Refused refusal) t u errno out is =
    subst (λ (v : Trail). IsEven s entered [] v) (sym out.1) is
out_keeps laws places s entered port call (decoded.Asked request) t u errno out is =
    asked_keeps laws places s entered port call request t u errno out is

pub sends_keep : Laws → (places : ℕ) (s : Setting) (entered : List Card) (port : ℕ)
    (front : Option (NetlinkMessage × ℕ)) (dids logged : List Did) (t u : Trail)
    (before after : List ℕ) (used : ℕ) →
    Sends places s port front dids logged t u before after used →
    IsEven s entered [] t → IsEven s entered [] u
sends_keep laws places s entered port None dids logged t u before after used sends is =
    subst (λ (v : Trail). IsEven s entered [] v) (sym sends.1) is
sends_keep laws places s entered port (Some (m, n)) dids logged t u before after used sends is =
    out_keeps laws places s entered port (next_call dids) (reading.decoded m) t u sends.1.errno
    sends.1.carried_out is
