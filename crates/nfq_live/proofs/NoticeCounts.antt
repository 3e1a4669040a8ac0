-- How many notices all passes sent to a port, and which of them were received.
use Rattle.std.proofs.Common.{◌≡◌, ◌<◌, ◌≤◌, ◌⊎◌, ◌+◌, ◌∙◌, ◌++◌, ℕ, List, ap, arith}
use Rattle.std.proofs.Common.{drop, inl, inr, length, map, min, subst, sym}
use Rattle.std.specs.Prelude.{slice_index_or, sum_by}
use Rattle.std.proofs.lemmas.Bool.{cases_lt}
use Rattle.std.proofs.lemmas.List.{at_drop_all, length-map}
use Rattle.mailbox.specs.declared.view.Post.{Post}
use Rattle.inspector_script.specs.Scripts.{ScriptValue}
use Rattle.place_rows.specs.Shares.{sent_in, sent_in_all}
use Rattle.plane.specs.declared.plane.Plane.{Plane}
use Rattle.plane.specs.Opening.{known_in}
use Rattle.plane.specs.Passes.{FeederView, PortView}
use Rattle.plane.specs.Planes.{order_of, places_of}
use Rattle.live_runs.specs.ClosedPlanes.{sent_by_all}
use Rattle.live_runs.specs.Passes.{Pass}
use Rattle.live_passes.specs.Numbered.{AreAll, passes_in, rows_in}
use Rattle.nfq_live.specs.declared.crew.Crew.{Crew}
use Rattle.live_work.specs.declared.mind.Mind.{Mind}
use Rattle.nfq_live.specs.Crews.{AreReceived, HaveMinds, IsCrewOf, all_sent}
use Rattle.nfq_live.specs.Crews.{passes_of}
use Rattle.live_work.specs.Minds.{IsMind}
use Rattle.live_work.specs.Numbers.{most_counted}
use Rattle.nfq_live.proofs.AllPasses.{pass_at}
use Rattle.nfq_live.proofs.PortNumbers.{any_default, parted, stands_at, zip_at, zip_long}

abbrev pub CountsLaw : Type 0
CountsLaw = (plane : Plane) (feeder : FeederView) (ports closed : List PortView) (port : ℕ) →
    AreAll plane feeder ports closed →
    sent_in_all port (rows_in feeder (ports ++ closed))
    ≡ sent_by_all (order_of plane) (places_of plane) (passes_in feeder (ports ++ closed)) port

-- ---- sums

-- what these ports sent to a port
abbrev pub sent_by : ℕ → List PortView → ℕ
sent_by port ps = sum_by (sent_in port) (map known_in ps)

-- all were counted
pub sent_end : (port sent i whole : ℕ) (ps : List PortView) → length ps ≤ i →
    sent ≤ most_counted → min (sent + sent_by port (drop i ps)) most_counted ≡ whole →
    sent ≡ whole
sent_end port sent i whole ps past most is =
    omega (arith, at_drop_all (sent_by port) ps i past, most, is)

-- ---- each received what was sent to it

-- what the counts say of the port at an index
abbrev pub IsCounted : Crew → ℕ → Type 0
IsCounted c i = (p : PortView) (m : Mind) →
    ((slice_index_or c.minds.items i m).received < most_counted)
    × (all_sent c (slice_index_or c.ports.items i p).port
    ≡ (slice_index_or c.minds.items i m).received)

pub counted_more : (c : Crew) (at : ℕ) (x : PortView) (y : Mind) → at < length c.ports.items →
    at < length c.minds.items → x ≡ slice_index_or c.ports.items at x →
    y ≡ slice_index_or c.minds.items at y → y.received < most_counted →
    all_sent c x.port ≡ y.received → ((i : ℕ) → i < at → IsCounted c i) → (i : ℕ) →
    i < at + 1 → IsCounted c i
counted_more c at x y less long its kept few same so_far i within p m = by (cases_lt i at)
  where
    by : (i < at) ⊎ (at ≤ i) → ((slice_index_or c.minds.items i m).received < most_counted)
        × (all_sent c (slice_index_or c.ports.items i p).port
        ≡ (slice_index_or c.minds.items i m).received)
    by (inl h) = so_far i h p m
    by (inr h) =
        let here : at ≡ i = omega (arith, h, within) in
        let mind : y ≡ slice_index_or c.minds.items i m =
        kept ∙ any_default c.minds.items at y m long
        ∙ ap (λ (k : ℕ). slice_index_or c.minds.items k m) here in
        let port : x ≡ slice_index_or c.ports.items i p =
        its ∙ any_default c.ports.items at x p less
        ∙ ap (λ (k : ℕ). slice_index_or c.ports.items k p) here in (
          subst (λ (n : Mind). n.received < most_counted) mind few,
          ap (λ (q : PortView). all_sent c q.port) (sym port) ∙ same
              ∙ ap (λ (n : Mind). n.received) mind,
        )

received_at : CountsLaw → (plane : Plane) (script : ScriptValue) (c : Crew) (port i : ℕ)
    (p : PortView) (m : Mind) → i < length c.ports.items →
    (slice_index_or c.ports.items i p).port ≡ port → IsCounted c i → IsCrewOf plane c →
    HaveMinds script c →
    sent_by_all (order_of plane) (places_of plane) (passes_of c) port
    ≡ length (passes_of c port).letters
received_at law plane script c port i p m less is counted crew minds =
    let x = slice_index_or c.ports.items i p in
    let y = slice_index_or c.minds.items i m in
    let mind : IsMind script x y =
    zip_at (IsMind script) c.ports.items c.minds.items i p m minds less in
    let both = counted p m in
    let sums = law plane c.feeding.pass c.ports.items c.closed.items x.port crew.all in
    let letters : length (passes_of c x.port).letters ≡ length x.receiver.received =
    ap (λ (q : Pass). length q.letters)
    (pass_at plane c.feeding.pass c.closed.items c.ports.items i p less crew.all)
    ∙ length-map x.receiver.received (λ (post : Post). post.letter) in
    let all : sent_by_all (order_of plane) (places_of plane) (passes_of c) x.port
    ≡ length (passes_of c x.port).letters =
    omega (arith, mind.heard, both.0, both.1, sums, letters) in
    subst (λ (q : ℕ). sent_by_all (order_of plane) (places_of plane) (passes_of c) q
    ≡ length (passes_of c q).letters) is all

pub all_received : CountsLaw → (plane : Plane) (script : ScriptValue) (c : Crew) →
    ((i : ℕ) → i < length c.ports.items → IsCounted c i) → IsCrewOf plane c →
    HaveMinds script c → AreReceived (order_of plane) (places_of plane) c
all_received law plane script c so_far crew minds = record {
  all = λ port is.
      let s = stands_at c.ports.items port is in
      let less = s.less in
      let long = zip_long (IsMind script) c.ports.items c.minds.items minds in
      let p = (parted c.ports.items s.at less).at in
      let m = (parted c.minds.items s.at (omega (arith, less, long))).at in
      received_at law plane script c port s.at p m less (s.is p) (so_far s.at less) crew minds;
}
