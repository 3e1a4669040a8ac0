-- What is heard, written out.
use Rattle.std.specs.Prelude.{ℕ, List, [], ◌∷◌, ◌≡◌, ◌++◌}
use Rattle.std.proofs.Common.{refl, arith, ◌∙◌, ap, sym, Bool, None, true, false}
use Rattle.std.specs.Prelude.{◌==◌, ◌≤◌, if◌then◌else◌}
use Rattle.netlink_codec.specs.Messages.{NetlinkMessage}
use Rattle.nfqa_msgs.specs.declared.request.Decoded.TheVariants.{Asked}
use Rattle.nfqa_msgs.specs.RequestReading.{decoded}
use Rattle.run_parts.specs.Log.{Got, Spoke}
use Rattle.run_parts.specs.Requests.{AreRequests, Plea, plea_of, pleas_in}
use Rattle.run_parts.specs.Notices.{AreNotices, letters_from}
use Rattle.run_parts.specs.Room.{AreRoomy, some_lacks}
use Rattle.run_parts.specs.HeardExamples.{binding, bound, taken, turned, heard_1}

pub unheard : AreNotices (bound 0 ∷ taken 1 ∷ []) 7 [] [] → ⊥
unheard are = let wrong = are 3 in cc

pub is_heard : AreNotices (bound 0 ∷ taken 1 ∷ []) 7 (Got heard_1 ∷ []) []
is_heard = λ queue. by (3 == queue)
  where
    by : (c : Bool) → (if c then heard_1 ∷ [] else []) ≡ letters_from 7 None
        (if c then bound 0 ∷ (if c then taken 1 ∷ [] else []) else (if c then taken 1 ∷ [] else []))
    by true = refl
    by false = refl

pub not_heard : AreNotices (bound 0 ∷ taken 1 ∷ []) 9 [] []
not_heard = λ queue. by (3 == queue)
  where
    by : (c : Bool) → [] ≡ letters_from 9 None
        (if c then bound 0 ∷ (if c then taken 1 ∷ [] else []) else (if c then taken 1 ∷ [] else []))
    by true = refl
    by false = refl

pub other_room : AreRoomy 1 (bound 0 ∷ turned 1 ∷ []) 9 [] []
other_room = λ queue. by (3 == queue)
  where
    by : (c : Bool) → some_lacks 9 None
        (if c then bound 0 ∷ (if c then turned 1 ∷ [] else [])
        else (if c then turned 1 ∷ [] else [])) ≡ true → 1 ≤ 0
    by true wrong = absurd (cc)
    by false wrong = absurd (cc)

pub told_errno : (m : NetlinkMessage) → decoded m ≡ Asked binding →
    AreRequests (bound 16 ∷ []) 7 (Spoke 1 m 16 ∷ [])
told_errno m is = λ queue.
    by queue (3 == queue) ∙ ap (λ d. plea_of queue 1 16 d ++ []) (sym is)
  where
    by : (queue : ℕ) (c : Bool) → pleas_in 7 (if c then bound 16 ∷ [] else [])
        ≡ (if c then record { call = 1; request = binding; errno = 16 } ∷ [] else []) ++ []
    by queue true = refl
    by queue false = refl

pub roomless : AreRoomy 1 (bound 0 ∷ turned 1 ∷ []) 7 [] [] → ⊥
roomless are = let wrong = are 3 refl in omega (arith, wrong)

pub wrong_errno : (m : NetlinkMessage) → decoded m ≡ Asked binding →
    AreRequests (bound 16 ∷ []) 7 (Spoke 1 m 0 ∷ []) → ⊥
wrong_errno m is are =
    let told : pleas_of_16 ≡ plea_of 3 1 0 (decoded m) ++ [] = are 3 in
    let wrong : pleas_of_16 ≡ plea_of 3 1 0 (Asked binding) ++ [] =
    told ∙ ap (λ d. plea_of 3 1 0 d ++ []) is in
    omega (arith, ap first_errno wrong)
  where
    pleas_of_16 : List Plea
    pleas_of_16 = record { call = 1; request = binding; errno = 16 } ∷ []

    first_errno : List Plea → ℕ
    first_errno [] = 0
    first_errno (p ∷ ps) = p.errno

pub unasked : (m : NetlinkMessage) → decoded m ≡ Asked binding →
    AreRequests [] 7 (Spoke 1 m 0 ∷ []) → ⊥
unasked m is are =
    let told = are 3 in
    let wrong : [] ≡ plea_of 3 1 0 (Asked binding) = cc in cc
