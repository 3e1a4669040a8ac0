-- A feeder goes through its share: a frame is fed, and then the devices go down that do so after
-- it.
use Rattle.std.proofs.Common.{◌≡◌, ◌<◌, ◌≤◌, ◌+◌, ◌∙◌, ◌++◌, ◌∷◌, [], ℕ, List, Option, Some}
use Rattle.std.proofs.Common.{None, ap, append-nil, append_assoc, arith, refl}
use Rattle.std.proofs.Common.{subst, sym}
use Rattle.std.specs.Prelude.{All}
use Rattle.std.proofs.lemmas.List.Elements.{All-head, All-tail}
use Rattle.packet_entry.specs.declared.packet.Card.{Card}
use Rattle.pcap_io.specs.declared.capture.Capture.{Capture}
use Rattle.pcap_io.specs.declared.capture.Frame.{Frame}
use Rattle.hook_chain.specs.Route.{next}
use Rattle.hook_chain.specs.declared.chain.Next.{Next}
use Rattle.packet_moves.specs.declared.fed.Fed.{Fed}
use Rattle.packet_moves.specs.declared.setting.Setting.{Setting}
use Rattle.place_turns.specs.Moving.{IsFed}
use Rattle.place_turns.specs.Trails.{Trail}
use Rattle.script_lines.specs.declared.line.Down.{Down}
use Rattle.inspector_script.specs.Scripts.{ScriptValue}
use Rattle.run_parts.specs.Entering.{card_of}
use Rattle.run_parts.specs.Feeder.{downs_after, falling_time, feeding_time}
use Rattle.plane.specs.declared.plane.Plane.{Plane}
use Rattle.plane.specs.Passes.{FeederView, IsFeederOf}
use Rattle.plane.specs.Planes.{places_of, setting_of}
use Rattle.live_runs.specs.Calls.{Feeds}
use Rattle.live_runs.specs.Calls as run
use Rattle.live_runs.specs.Owners.{IsFeeders}
use Rattle.live_runs.specs.Seen.{Grows, Seen, Shares}
use Rattle.live_passes.specs.Views.{HaveSeenOwn, shares_of}
use Rattle.shared_feeding.specs.Lines.{share_downs}
use Rattle.shared_feeding.specs.Sights.{AreSharing, IsFrameOf, IsSharing, IsThis, front_time}
use Rattle.feeder_set.specs.declared.share.Share.{Share}
use Rattle.feeder_set.specs.Shares.{FeederState}
use Rattle.feeder_set.specs.Steps as step
use Rattle.feeder_set.specs.Steps.{AllFall, IsCardFed, PassesNext}
use Rattle.live_work.specs.Feeding.{shares_in}
use Rattle.live_work.specs.Sharing.{SharePasses}
use Rattle.live_work.proofs.FallenDevices.{DownLaws, falls_grow, falls_here}
use Rattle.live_work.proofs.FeederCalls.{GrowsLaw, card_is, grows_both, grows_none, lines_after_one}
use Rattle.live_work.proofs.UnchangedPass.{feeder_owns, some_place}

-- ---- the laws

abbrev pub BeginsLaw : Type 0
BeginsLaw = (feeders feeder : ℕ) (front : List Seen) →
    IsSharing feeders feeder front_time [] front front

abbrev pub WaitsLaw : Type 0
WaitsLaw = (feeders feeder time later : ℕ) (fallen : List Down) (front xs : List Seen) →
    time ≤ later → IsSharing feeders feeder time fallen front xs →
    IsSharing feeders feeder later fallen front xs

abbrev pub FeedsLaw : Type 0
FeedsLaw = (places feeders feeder time : ℕ) (route : Next) (fallen : List Down) (card : Card)
    (front old new : Shares) → 0 < places → time ≤ feeding_time card.number →
    IsFrameOf feeders (IsThis feeder) card.number → Feeds places route card old new →
    AreSharing places feeders feeder time fallen front old →
    AreSharing places feeders feeder (falling_time card.number) fallen front new

abbrev pub FallsLaw : Type 0
FallsLaw = (places feeders feeder time : ℕ) (fallen : List Down) (d : Down)
    (front old new : Shares) → time ≤ falling_time d.after →
    IsFrameOf feeders (IsThis feeder) d.after →
    ((k : ℕ) → k < places → run.FallsAt d.device (old k) (new k)) →
    AreSharing places feeders feeder time fallen front old →
    AreSharing places feeders feeder (falling_time d.after) (fallen ++ d ∷ []) front new

abbrev pub FedLaw : Type 0
FedLaw = (places : ℕ) (s : Setting) (old new : Trail) (card : Card) (f : Fed) →
    card.visit ≡ 0 → HaveSeenOwn old.known → IsFed places s old card new f →
    Feeds places (next s.tables s.key card 1) card (shares_of old.known) (shares_of new.known)

abbrev pub FirstLaw : Type 0
FirstLaw = (feeders feeder : ℕ) → feeder < feeders →
    IsFrameOf feeders (IsThis feeder) (feeder + 1)

abbrev pub OnLaw : Type 0
OnLaw = (feeders feeder number : ℕ) → feeder < feeders →
    IsFrameOf feeders (IsThis feeder) number → IsFrameOf feeders (IsThis feeder) (number + feeders)

abbrev pub NoneLaw : Type 0
NoneLaw = (script : ScriptValue) (feeders feeder : ℕ) → feeder < feeders →
    share_downs script feeders feeder feeder ≡ []

abbrev pub MoreLaw : Type 0
MoreLaw = (script : ScriptValue) (feeders feeder passed : ℕ) → feeder < feeders →
    IsFrameOf feeders (IsThis feeder) (passed + 1) →
    share_downs script feeders feeder passed ++ downs_after script (passed + 1)
    ≡ share_downs script feeders feeder (passed + feeders)

abbrev pub AllLaw : Type 0
AllLaw = (script : ScriptValue) (feeders feeder passed frames : ℕ) → feeder < feeders →
    IsFrameOf feeders (IsThis feeder) (passed + 1) → frames ≤ passed → passed < frames + feeders →
    share_downs script feeders feeder passed ≡ share_downs script feeders feeder frames

pub record ShareLaws : Type 0 where
  pub begins : BeginsLaw
  pub waits : WaitsLaw
  pub feeds : FeedsLaw
  pub falls : FallsLaw
  pub fed : FedLaw
  pub down : DownLaws
  pub grows : GrowsLaw
  pub first : FirstLaw
  pub on : OnLaw
  pub none : NoneLaw
  pub more : MoreLaw
  pub all : AllLaw

-- ---- what a feeder keeps

-- So it is behind some frames of its share, up to this time and with these lines.
pub record Keeps (places : ℕ) (s : Share) (time : ℕ) (fallen : List Down) (front now : Shares)
    : Type 0 where
  pub sharing : AreSharing places s.feeders s.number time fallen front now
  pub grows : (k : ℕ) → Grows IsFeeders (front k) (now k)

module _ (laws : ShareLaws) (plane : Plane) (s : Share) (number : ℕ)
    (frame : IsFrameOf s.feeders (IsThis s.number) number) (front : Shares) where
  later : (time then_ : ℕ) (fallen : List Down) (now : Shares) → time ≤ then_ →
      Keeps (places_of plane) s time fallen front now →
      Keeps (places_of plane) s then_ fallen front now
  later time then_ fallen now less keeps = record {
    sharing = λ k here. laws.waits s.feeders s.number time then_ fallen (front k) (now k) less
        (keeps.sharing k here);
    grows = keeps.grows;
  }

  -- a packet is fed
  one_fed : (time : ℕ) (fallen : List Down) (card : Card) (old new : FeederView) →
      time ≤ feeding_time number → IsFeederOf plane old → card.visit ≡ 0 →
      card.number ≡ number → IsCardFed plane card old new →
      Keeps (places_of plane) s time fallen front (shares_in old) →
      Keeps (places_of plane) s (falling_time number) fallen front (shares_in new)
  one_fed time fallen card old new early of first named fed keeps =
      let places = places_of plane in
      let t = setting_of plane in
      let did = laws.fed places t old.trail new.trail card fed.became first
      (feeder_owns plane old of) fed.moved in
      record {
        sharing = subst (λ (n : ℕ). AreSharing places s.feeders s.number (falling_time n) fallen
            front (shares_in new)) named
            (laws.feeds places s.feeders s.number time (next t.tables t.key card 1) fallen card
            front (shares_in old) (shares_in new) (some_place plane)
            (omega (arith, early, named))
            (subst (λ (n : ℕ). IsFrameOf s.feeders (IsThis s.number) n) (sym named) frame) did
            keeps.sharing);
        grows = λ k. grows_both IsFeeders (front k) (shares_in old k) (shares_in new k)
            (keeps.grows k)
            (laws.grows places (next t.tables t.key card 1) card (shares_in old) (shares_in new)
            did k);
      }

  -- that of a frame is, where it has one
  frame_fed : (capture : Capture) (f : Frame) (o : Option Card) →
      o ≡ card_of capture number f → (time : ℕ) (fallen : List Down) (old new : FeederView) →
      time ≤ feeding_time number → IsFeederOf plane old → step.Feeds plane o old new →
      Keeps (places_of plane) s time fallen front (shares_in old) →
      Keeps (places_of plane) s (falling_time number) fallen front (shares_in new)
  frame_fed capture f None is time fallen old new early of fed keeps =
      subst (λ (p : FeederView). Keeps (places_of plane) s (falling_time number) fallen front
      (shares_in p)) (sym fed)
      (later time (falling_time number) fallen (shares_in old) (omega (arith, early)) keeps)
  frame_fed capture f (Some card) is time fallen old new early of fed keeps =
      let facts = card_is capture number f card is in
      one_fed time fallen card old new early of facts.0 facts.1 fed keeps

  -- devices go down
  lines_fall : (ds : List Down) → All (λ (d : Down). d.after ≡ number) ds →
      (fallen : List Down) (old new : FeederView) → IsFeederOf plane old →
      AllFall plane ds old new →
      Keeps (places_of plane) s (falling_time number) fallen front (shares_in old) →
      Keeps (places_of plane) s (falling_time number) (fallen ++ ds) front (shares_in new)
  lines_fall [] after fallen old new of fall keeps =
      subst (λ (l : List Down). Keeps (places_of plane) s (falling_time number) l front
      (shares_in new)) (sym (append-nil fallen))
      (subst (λ (p : FeederView). Keeps (places_of plane) s (falling_time number) fallen front
      (shares_in p)) (sym fall) keeps)
  lines_fall (d ∷ ds) after fallen old new of fall keeps =
      let places = places_of plane in
      let mid = fall.0 in
      let named : d.after ≡ number = All-head (λ (e : Down). e.after ≡ number) d ds after in
      let one : Keeps places s (falling_time number) (fallen ++ d ∷ []) front (shares_in mid) =
      record {
        sharing = subst (λ (n : ℕ). AreSharing places s.feeders s.number (falling_time n)
            (fallen ++ d ∷ []) front (shares_in mid)) named
            (laws.falls places s.feeders s.number (falling_time number) fallen d front
            (shares_in old) (shares_in mid) (omega (arith, named))
            (subst (λ (n : ℕ). IsFrameOf s.feeders (IsThis s.number) n) (sym named) frame)
            (λ k less. (falls_here laws.down plane d old mid of fall.1.0 k less).falls)
            keeps.sharing);
        grows = λ k. grows_both IsFeeders (front k) (shares_in old k) (shares_in mid k)
            (keeps.grows k) (falls_grow laws.down plane d old mid of fall.1.0 k);
      } in
      subst (λ (l : List Down). Keeps places s (falling_time number) l front (shares_in new))
      (append_assoc fallen (d ∷ []) ds)
      (lines_fall ds (All-tail (λ (e : Down). e.after ≡ number) d ds after) (fallen ++ d ∷ []) mid
      new fall.1.0.of fall.1.1 one)

-- ---- step by step

-- So many frames have passed, and the next one is of the share.
pub record IsUpTo (script : ScriptValue) (places : ℕ) (s : Share) (next : ℕ)
    (front now : Shares) : Type 0 where
  pub passed : ℕ
  pub is : next ≡ passed + 1
  pub frame : IsFrameOf s.feeders (IsThis s.number) (passed + 1)
  pub time : ℕ
  pub early : time ≤ feeding_time (passed + 1)
  pub keeps : Keeps places s time (share_downs script s.feeders s.number passed) front now

pub up_to_first : ShareLaws → (script : ScriptValue) (places : ℕ) (s : Share) (front : Shares) →
    s.number < s.feeders → IsUpTo script places s (s.number + 1) front front
up_to_first laws script places s front below = record {
  passed = s.number;
  is = refl;
  frame = laws.first s.feeders s.number below;
  time = front_time;
  early = omega arith;
  keeps = record {
    sharing = λ k here. subst (λ (l : List Down). IsSharing s.feeders s.number front_time l
        (front k) (front k)) (sym (laws.none script s.feeders s.number below))
        (laws.begins s.feeders s.number (front k));
    grows = λ k. grows_none IsFeeders (front k);
  };
}

pub up_to_next : ShareLaws → (plane : Plane) (script : ScriptValue) (capture : Capture)
    (was now : FeederState) (s : Share) (front : Shares) (old new : FeederView) →
    was.share ≡ s → s.number < s.feeders → IsFeederOf plane old →
    PassesNext plane script capture was now old new →
    IsFeederOf plane new →
    IsUpTo script (places_of plane) s was.next front (shares_in old) →
    IsUpTo script (places_of plane) s now.next front (shares_in new)
up_to_next laws plane script capture was now s front old new share below of passes then_of up =
    let places = places_of plane in
    let number = up.passed + 1 in
    let same : was.next ≡ number = up.is in
    let fed = subst (λ (n : ℕ). step.Feeds plane (card_of capture n passes.frame) old
    passes.between) same passes.fed in
    let fell = subst (λ (n : ℕ). AllFall plane (downs_after script n) passes.between new) same
    passes.fell in
    let one = frame_fed laws plane s number up.frame front capture passes.frame
    (card_of capture number passes.frame) refl up.time
    (share_downs script s.feeders s.number up.passed) old passes.between up.early of fed
    up.keeps in
    let all = lines_fall laws plane s number up.frame front (downs_after script number)
    (lines_after_one number script.downs) (share_downs script s.feeders s.number up.passed)
    passes.between new (fed_of (card_of capture number passes.frame) fed) fell one in
    let further : now.next ≡ was.next + s.feeders =
    ap (λ (f : FeederState). f.next) passes.on
    ∙ ap (λ (t : Share). was.next + t.feeders) share in
    let up_by : number + s.feeders ≡ (up.passed + s.feeders) + 1 = omega arith in
    record {
      passed = up.passed + s.feeders;
      is = omega (arith, further, same);
      frame = subst (λ (n : ℕ). IsFrameOf s.feeders (IsThis s.number) n) up_by
          (laws.on s.feeders s.number number below up.frame);
      time = falling_time number;
      early = omega (arith, below);
      keeps = subst (λ (l : List Down). Keeps places s (falling_time number) l front
          (shares_in new)) (laws.more script s.feeders s.number up.passed below up.frame) all;
    }
  where
    fed_of : (o : Option Card) → step.Feeds plane o old passes.between →
        IsFeederOf plane passes.between
    fed_of None is = subst (λ (p : FeederView). IsFeederOf plane p) (sym is) of
    fed_of (Some card) is = is.of

-- no frame of the share is left
pub up_to_last : ShareLaws → (script : ScriptValue) (places frames next : ℕ) (s : Share)
    (front now : Shares) → s.number < s.feeders → frames < next → next ≤ frames + s.feeders →
    IsUpTo script places s next front now → SharePasses script places s frames front now
up_to_last laws script places frames next s front now below past near up = record {
  time = up.time;
  sharing = subst (λ (l : List Down). AreSharing places s.feeders s.number up.time l front now)
      (laws.all script s.feeders s.number up.passed frames below up.frame
      (omega (arith, past, up.is)) (omega (arith, near, up.is))) up.keeps.sharing;
  grows = up.keeps.grows;
}
