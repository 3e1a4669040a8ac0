-- Logs of a port behind a pool of two workers, written out.
use Rattle.std.proofs.Common.{ℕ, ◌≡◌, ◌∙◌, List, [], ◌∷◌, Option, Some, None, true, false}
use Rattle.std.proofs.Common.{refl, ap, sym, subst, arith}
use Rattle.packet_entry.specs.declared.letter.Letter.{Letter}
use Rattle.netlink_codec.specs.Messages.{first_message}
use Rattle.nfqa_msgs.specs.RequestReading.{decoded}
use Rattle.nfqa_msgs.specs.NoticeWriting.{Told}
use Rattle.histories.specs.declared.log.AskWords.TheVariants.{Raw}
use Rattle.histories.specs.declared.log.Did.{Did}
use Rattle.histories.specs.declared.log.Did.TheVariants.{Received, Sent}
use Rattle.script_lines.specs.declared.ask.Ask.TheVariants.{Words}
use Rattle.nfqa_msgs.specs.NoticeTexts.{told_exactly}
use Rattle.run_parts.specs.Log.{Note, Got, Turned, Begun, Spoke, Due, Still, Message, IsLog}
use Rattle.run_parts.specs.Log.{Standing, AreNextFrom, standing_from, all_due, answer_to}
use Rattle.run_parts.specs.LoggedExamples.{header, message, one_and_two}

-- an ask of this message
abbrev asked : ℕ → List Due
asked kind = Still (Words (Raw (header kind))) ∷ []

abbrev once : Letter → List Did
once l = Received l.queue l.number l.visit ∷ []

abbrev twice : Letter → Letter → List Did
twice l m = Received l.queue l.number l.visit ∷ Received m.queue m.number m.visit ∷ []

-- what is asked for in answer to the first notice, and to the second
first_answer : (l : Letter) (told : Told) → told_exactly l.bytes ≡ Some told →
    all_due (answer_to one_and_two 0 (once l) (told_exactly l.bytes)) ≡ asked 1
first_answer l told is = ap (λ t. all_due (answer_to one_and_two 0 (once l) t)) is

second_answer : (l m : Letter) (told : Told) → told_exactly m.bytes ≡ Some told →
    all_due (answer_to one_and_two 0 (twice l m) (told_exactly m.bytes)) ≡ asked 2
second_answer l m told is = ap (λ t. all_due (answer_to one_and_two 0 (twice l m) t)) is

-- where the port stands once it has these answers to both
abbrev both : Letter → Letter → List Due → List Due → Standing
both l m one two = record {
  dids = twice l m;
  owed = [];
  pending = one ∷ two ∷ [];
  ends = [];
  is_open = true;
  is_fresh = false;
}

abbrev behind : List Note
behind =
    Turned ∷ Begun ∷ Spoke 1 (message 1) 0 ∷ Turned ∷ Begun ∷ Spoke 2 (message 2) 0 ∷ []

-- from there on all is next, and nothing is left
record Ends (l m : Letter) (one two : List Due) : Type 0 where
  next : AreNextFrom 2 one_and_two 0 7 (both l m one two) behind
  owed : (standing_from 2 one_and_two 0 7 (both l m one two) behind).owed ≡ []
  answered : (standing_from 2 one_and_two 0 7 (both l m one two) behind).pending ≡ []
  ended : (standing_from 2 one_and_two 0 7 (both l m one two) behind).ends ≡ []

both_sent : (l m : Letter) → Ends l m (asked 1) (asked 2)
unfolding first_message decoded
both_sent l m = record {
  next = (
    (refl, refl, refl, refl, refl),
    (
      (refl, tt),
      (
        (refl, refl, refl),
        (
          (refl, refl, refl, refl, refl),
          (
            (refl, tt),
            ((refl, refl, refl), tt),
          ),
        ),
      ),
    ),
  );
  owed = refl;
  answered = refl;
  ended = refl;
}

pub pooled_logged : (l m : Letter) (one two : Told) → told_exactly l.bytes ≡ Some one →
    told_exactly m.bytes ≡ Some two → IsLog 2 one_and_two 0 7 (Got l ∷ Got m ∷ behind)
    (Received l.queue l.number l.visit ∷ Received m.queue m.number m.visit
    ∷ Sent 1 (Raw (header 1)) None ∷ Sent 2 (Raw (header 2)) None ∷ [])
unfolding first_message decoded
pooled_logged l m one two is too =
    let ends =
    subst (λ a. Ends l m a (all_due (answer_to one_and_two 0 (twice l m) (told_exactly m.bytes))))
    (sym (first_answer l one is))
    (subst (λ b. Ends l m (asked 1) b) (sym (second_answer l m two too)) (both_sent l m)) in
    record {
      noted = refl;
      next = ((refl, refl, refl), ((refl, refl, refl), ends.next));
      owed = ends.owed;
      answered = ends.answered;
      ended = ends.ended;
    }

pub not_alone : (l m : Letter) (told : Told) (notes : List Note) (dids : List Did) →
    told_exactly l.bytes ≡ Some told →
    IsLog 1 one_and_two 0 7 (Got l ∷ Got m ∷ notes) dids → ⊥
not_alone l m told notes dids is log =
    let wrong : asked 1 ≡ [] = sym (first_answer l told is) ∙ log.next.1.0.1 in cc

-- the first message to be sent is that of the first answer
abbrev Sends : Letter → Letter → List Due → List Due → List Note → Type 0
Sends l m one two notes =
    AreNextFrom 2 one_and_two 0 7 (both l m one two)
    (Turned ∷ Begun ∷ Spoke 1 (message 2) 0 ∷ notes)

-- the kind of what is due first, if it is a message
abbrev kind_due : Option Due → ℕ
kind_due None = 0
kind_due (Some (Still ask)) = 0
kind_due (Some (Message m)) = m.kind

not_second : (l m : Letter) (two : List Due) (notes : List Note) →
    Sends l m (asked 1) two notes → ⊥
unfolding first_message decoded
not_second l m two notes sends =
    let wrong : 1 ≡ 2 = ap kind_due sends.1.1.0.1 in omega (arith, wrong)

pub not_the_other_order : (l m : Letter) (told : Told) (notes : List Note) (dids : List Did) →
    told_exactly l.bytes ≡ Some told → IsLog 2 one_and_two 0 7
    (Got l ∷ Got m ∷ Turned ∷ Begun ∷ Spoke 1 (message 2) 0 ∷ notes) dids → ⊥
not_the_other_order l m told notes dids is log =
    let two = all_due (answer_to one_and_two 0 (twice l m) (told_exactly m.bytes)) in
    not_second l m two notes
    (subst (λ a. Sends l m a two notes) (first_answer l told is) log.next.1.1)
