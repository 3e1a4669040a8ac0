-- A port opens, and all passes meet: what is new are its requests.
use Rattle.std.proofs.Common.{◌++◌, ◌<◌, ◌≡◌, ◌≢◌, Bool, List, subst, sym, true, ℕ}
use Rattle.histories.specs.declared.entry.Entry.{Entry}
use Rattle.live_runs.specs.ClosedPlanes.{AreOwned}
use Rattle.live_runs.specs.Doing.{IsQuiet}
use Rattle.live_runs.specs.Meetings.{IsAsk}
use Rattle.live_runs.specs.Seen.{EachIs, IsNone, OursAre, Seen, Shares, TheirsAre, all_theirs}
use Rattle.live_runs.specs.Seen.{entries}
use Rattle.live_runs.specs.Stages.{IsSegment}
use Rattle.live_runs.proofs.OnePlace.{here_and_elsewhere}
use Rattle.live_runs.proofs.OwnInWhole.{theirs_of_others}
use Rattle.live_runs.proofs.OwnInSegment.{front_owned, segment_is, segment_owned}
use Rattle.live_runs.proofs.BetweenMeetings.{segment}
use Rattle.live_runs.proofs.Marks.{each_append, none_is, nothing_ours, ours_append, ours_as}
use Rattle.live_runs.proofs.Marks.{theirs_front}

-- where nobody else has anything of its own in a segment, all of it is this one's
all_mine : (count : ℕ → Bool) (more : ℕ → List Seen) (segment : List Entry) (port : ℕ) →
    ((p : ℕ) → count p ≡ true → entries (more p) ≡ segment) → count port ≡ true →
    AreOwned count more segment →
    ((p : ℕ) → count p ≡ true → p ≢ port → OursAre IsNone (more p)) → TheirsAre IsNone (more port)
all_mine count more segment port same is_one owned others =
    theirs_of_others IsNone count more port (more port)
    (subst (AreOwned count more) (sym (same port is_one)) owned) (λ i x is. is) others

module _ (count : ℕ → Bool) (places : ℕ) (old new : ℕ → ℕ → List Seen)
    (whole seg : ℕ → List Entry) (port : ℕ) (is_one : count port ≡ true)
    (segments : (k : ℕ) → k < places → IsSegment count (old k) (new k) (whole k) (seg k))
    (left : Shares) (opening : IsQuiet places (λ k. old k port) left)
    (beyond : (k : ℕ) → k < places → List Entry)
    (met : (k : ℕ) (below : k < places) →
    (segments k below).more port ≡ opening.more k ++ all_theirs (beyond k below))
    (others : (k : ℕ) (below : k < places) (p : ℕ) → count p ≡ true → p ≢ port →
    OursAre IsNone ((segments k below).more p))
    (asks : ((k : ℕ) → k < places → AreOwned count (old k) (whole k)) → (k : ℕ) → k < places →
    EachIs IsAsk (whole k))
    (owned : (k : ℕ) → k < places → AreOwned count (new k) (whole k ++ seg k)) where
  fronts : (k : ℕ) → k < places → AreOwned count (old k) (whole k)
  fronts k below =
      front_owned count (old k) (new k) (whole k) (seg k) (segments k below) (owned k below)

  mine : (k : ℕ) (below : k < places) → TheirsAre IsNone (opening.more k ++ all_theirs (beyond k
      below))
  mine k below = subst (TheirsAre IsNone) (met k below)
      (all_mine count (segments k below).more (seg k) port (segments k below).now is_one
      (segment_owned count (old k) (new k) (whole k) (seg k) (segments k below) (owned k below))
      (others k below))

  quiet : (k : ℕ) → k < places → OursAre IsAsk (opening.more k)
  quiet = opening.quiet
      (λ j below. subst (EachIs IsAsk) (sym ((segments j below).was port is_one))
      (asks fronts j below))
      (λ j below. theirs_front IsNone (opening.more j) (all_theirs (beyond j below))
      (mine j below))

  pub segment_asks : (k : ℕ) → k < places → EachIs IsAsk (seg k)
  segment_asks k below =
      segment_is count (old k) (new k) (whole k) (seg k) (segments k below) (owned k below) IsAsk
      (here_and_elsewhere (λ p. count p ≡ true → OursAre IsAsk ((segments k below).more p)) port
      (λ is. subst (OursAre IsAsk) (sym (met k below))
      (ours_append IsAsk (opening.more k) (all_theirs (beyond k below)) (quiet k below)
      (nothing_ours IsAsk (beyond k below))))
      (λ p other is. ours_as IsNone IsAsk (none_is IsAsk) ((segments k below).more p)
      (others k below p is other)))

  pub asks_on : (k : ℕ) → k < places → EachIs IsAsk (whole k ++ seg k)
  asks_on k below = each_append IsAsk (whole k) (seg k) (asks fronts k below) (segment_asks k below)
