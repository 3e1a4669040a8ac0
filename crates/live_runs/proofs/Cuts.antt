-- Messages that are cut from bytes and sent, one after the other.
use Rattle.std.proofs.Common.{◌++◌, ◌+◌, ◌-◌, ◌<◌, ◌∷◌, ◌≡◌, ◌≤◌, Bool, List, None, Option, Some}
use Rattle.std.proofs.Common.{[], ap, arith, drop, false, inl, inr, length, min, refl, subst, suc}
use Rattle.std.proofs.Common.{sym, true, ℕ}
use Rattle.std.proofs.lemmas.Bool.{cases_Bool}
use Rattle.std.proofs.lemmas.Bool.Decides.{nat_tests}
use Rattle.std.proofs.lemmas.List.Elements.{All-head, All-tail}
use Rattle.std.specs.Prelude.{map}
use Rattle.netlink_codec.specs.Messages.{NetlinkMessage, first_message, has_message, pad}
use Rattle.netlink_codec.specs.Messages.{told_length, told_message}
use Rattle.inspector_script.specs.Scripts.{ScriptValue}
use Rattle.run_parts.specs.Datagrams.{AsksWell, cut_in, with_those_behind}
use Rattle.run_parts.specs.Log.{Due, Message, Note, is_some_due}
use Rattle.live_runs.specs.Doing.{IsCutting, IsDoing}
use Rattle.live_runs.specs.Passes.{Pass, Speaks, SpeaksFirst}
use Rattle.live_runs.specs.Stages.{MaySpeak, Stage}
use Rattle.live_runs.specs.Stands.{AtEnd, Now, Side, cut_side, side}
use Rattle.live_runs.proofs.PortCalls.{doing_speaks}
use Rattle.live_runs.proofs.LowerLaws.{ClosingLaws, Conserve, LogLaws}

some_bytes : (total bytes n : ℕ) → n ≡ min (pad total) bytes → 16 ≤ total → total ≤ bytes →
    (0 < n) × (n ≤ bytes)
some_bytes total bytes n is least most = (omega (arith, is, least, most), omega (arith, is))

-- a message uses a byte at least, and no more than there are
first_uses : (bytes : List ℕ) (m : NetlinkMessage) (n : ℕ) →
    first_message bytes ≡ Some (m, n) → (0 < n) × (n ≤ length bytes)
unfolding first_message
first_uses bytes m n is =
    elim (cases_Bool (has_message bytes)) [
      | inl has ↦
          (let both : Some (told_message bytes, min (pad (told_length bytes)) (length bytes))
          ≡ Some (m, n) = rw has at is in
          let used : min (pad (told_length bytes)) (length bytes) ≡ n = ap uses_of both in
          let least : 16 ≤ told_length bytes = grind (arith, nat_tests, has) in
          let most : told_length bytes ≤ length bytes = grind (arith, nat_tests, has) in
          some_bytes (told_length bytes) (length bytes) n (sym used) least most)
      | inr has ↦
          (let none : None ≡ Some (m, n) = rw has at is in absurd (cc))
    ]
  where
    uses_of : Option (NetlinkMessage × ℕ) → ℕ
    uses_of None = 0
    uses_of (Some (m, n)) = n

module _ (logs : LogLaws) (laws : ClosingLaws) (conserve : Conserve) (workers : ℕ)
    (script : ScriptValue) (places : ℕ) (stage : Stage) (port : ℕ) (was : List Note)
    (start_at : Pass) (some_place : 0 < places) (x : Side)
    (may : MaySpeak script.ports port stage x) (ds : List Due) where
  abbrev Cut : List NetlinkMessage → Pass → Type 0
  Cut ms pass = IsCutting workers script places stage port was start_at x ms ds pass

  abbrev Done : Pass → Type 0
  Done pass = IsDoing workers script places stage port was start_at (side x ds) pass

  unfresh : (y : Side) (due : List Due) → cut_side y due false ≡ side y due
  unfresh (Now groups ends) due = refl
  unfresh (AtEnd groups) due = refl

  -- nothing is left
  pub cutting_ends : (ms : List NetlinkMessage) (pass : Pass) → ms ≡ [] → Cut ms pass → Done pass
  cutting_ends ms pass none c = by c.fresh (λ so. subst (λ ns. is_some_due (map Message ns) ≡ true)
      none (c.some so))
      (subst (λ ns. IsDoing workers script places stage port was start_at
      (cut_side x (map Message ns ++ ds) c.fresh) pass) none c.is)
    where
      by : (b : Bool) → (b ≡ true → false ≡ true) →
          IsDoing workers script places stage port was start_at (cut_side x ds b) pass → Done pass
      by true so is = let wrong = so refl in absurd (cc)
      by false so is = subst (λ t. IsDoing workers script places stage port was start_at t pass)
          (unfresh x ds) is

  cutting_on : (m : NetlinkMessage) (ms : List NetlinkMessage) (errno : ℕ) (old new : Pass) →
      Speaks places port m errno old new → Cut (m ∷ ms) old → Cut ms new
  cutting_on m ms errno old new s c = record {
    fresh = false;
    some = λ wrong. absurd (cc);
    short = All-tail AsksWell m ms c.short;
    is = subst (λ t. IsDoing workers script places stage port was start_at t new)
        (sym (unfresh x (map Message ms ++ ds)))
        (doing_speaks logs laws conserve workers script places stage port was start_at x m errno
        (map Message ms ++ ds) c.fresh old new some_place (All-head AsksWell m ms c.short) may s
        c.is);
  }

  sends_on : (cut : List ℕ → List NetlinkMessage) (rest : List ℕ) (old new : Pass) (used : ℕ)
      (front : Option (NetlinkMessage × ℕ)) → 0 < used →
      SpeaksFirst places port front old new used → Cut (with_those_behind cut rest front) old →
      Cut (cut (drop used rest)) new
  sends_on cut rest old new used None some is c = absurd (omega (arith, some, is.0))
  sends_on cut rest old new used (Some (m, n)) some is c =
      subst (λ k. Cut (cut (drop k rest)) new) (sym is.0)
      (cutting_on m (cut (drop n rest)) is.1.errno old new is.1.speaks c)

  sends_none : (cut : List ℕ → List NetlinkMessage) (rest : List ℕ) (old new : Pass) (used : ℕ)
      (front : Option (NetlinkMessage × ℕ)) → used ≤ 0 → first_message rest ≡ front →
      SpeaksFirst places port front old new used → Cut (with_those_behind cut rest front) old →
      Done new
  sends_none cut rest old new used None none same is c =
      subst Done (sym is.1) (cutting_ends [] old refl c)
  sends_none cut rest old new used (Some (m, n)) none same is c =
      absurd (omega (arith, (first_uses rest m n same).0, none, is.0))

  cut_more : (n look : ℕ) (rest : List ℕ) → look < n →
      cut_in (n - look) rest
      ≡ with_those_behind (cut_in (n - (look + 1))) rest (first_message rest)
  cut_more n look rest more =
      let one : n - look ≡ suc (n - (look + 1)) = omega (arith, more) in
      ap (λ (k : ℕ). cut_in k rest) one

  -- a message is sent, and the rest is still to be cut
  pub sent_on : (n look : ℕ) (rest : List ℕ) (old new : Pass) (used : ℕ) → look < n →
      0 < used → SpeaksFirst places port (first_message rest) old new used →
      Cut (cut_in (n - look) rest) old → Cut (cut_in (n - (look + 1)) (drop used rest)) new
  sent_on n look rest old new used more some is c =
      sends_on (cut_in (n - (look + 1))) rest old new used (first_message rest) some is
      (subst (λ ms. Cut ms old) (cut_more n look rest more) c)

  -- no message is left
  pub sent_all : (n look : ℕ) (rest : List ℕ) (old new : Pass) (used : ℕ) → look < n → used ≤ 0 →
      SpeaksFirst places port (first_message rest) old new used →
      Cut (cut_in (n - look) rest) old → Done new
  sent_all n look rest old new used more none is c =
      sends_none (cut_in (n - (look + 1))) rest old new used (first_message rest) none refl is
      (subst (λ ms. Cut ms old) (cut_more n look rest more) c)

  -- as many looks as there are bytes are enough
  pub looked_all : (n look : ℕ) (rest : List ℕ) (pass : Pass) → n ≤ look →
      Cut (cut_in (n - look) rest) pass → Done pass
  looked_all n look rest pass none c =
      let k : n - look ≡ 0 = omega (arith, none) in
      cutting_ends (cut_in (n - look) rest) pass (ap (λ j. cut_in j rest) k) c

-- where no byte is used, nothing was sent
pub unsent : (rest : List ℕ) (places port : ℕ) (old new : Pass) (used : ℕ)
    (front : Option (NetlinkMessage × ℕ)) → first_message rest ≡ front → used ≤ 0 →
    SpeaksFirst places port front old new used → new ≡ old
unsent rest places port old new used None same none is = is.1
unsent rest places port old new used (Some (m, n)) same none is =
    absurd (omega (arith, (first_uses rest m n same).0, none, is.0))

pub used_within : (rest : List ℕ) (places port : ℕ) (old new : Pass) (used : ℕ)
    (front : Option (NetlinkMessage × ℕ)) → first_message rest ≡ front →
    SpeaksFirst places port front old new used → used ≤ length rest
used_within rest places port old new used None same is = omega (arith, is.0)
used_within rest places port old new used (Some (m, n)) same is =
    omega (arith, (first_uses rest m n same).1, is.0)
