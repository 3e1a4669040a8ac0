-- The lines of a journal are read exactly where they are written.
use Rattle.std.proofs.Common.{◌≡◌, ℕ, Bool, List}
use Rattle.std.proofs.Common.{[], ◌∷◌, ◌++◌, Option, Some, None, ◌∙◌, refl, sym, ap, subst}
use Rattle.std.proofs.Common.{append_assoc, decimal}
use Rattle.std.specs.Prelude.{codes, option_map}
use Rattle.std.specs.Option.{option_map_or}
use Rattle.std.proofs.lemmas.Option.{some_pair_parts}
use Rattle.hex.specs.Hex.{IsBytes}
use Rattle.text_lines.specs.Words.{cut_at}
use Rattle.text_lines.specs.Digits as digits
use Rattle.text_lines.specs.Hexadecimal.{hexadecimal}
use Rattle.packet_entry.specs.declared.packet.Card.{Card}
use Rattle.nfqa_headers.specs.declared.params.Params.{Params}
use Rattle.nfqa_headers.specs.declared.verdict_header.Head.{Head}
use Rattle.nfqa_msgs.specs.declared.request.Request.{Request}
use Rattle.nfqa_msgs.specs.declared.request.Request.TheVariants.{Config, Verdict, Batch}
use Rattle.histories.specs.declared.log.AskWords.{AskWords}
use Rattle.histories.specs.declared.log.AskWords.TheVariants.{Plain, Raw}
use Rattle.journals.specs.Format as text
use Rattle.journals.specs.declared.version.Version.{Version}
use Rattle.journals.specs.declared.version.Version.TheVariants.{First, Second}
use Rattle.journals.specs.Formed.{FitsAsk, FitsCard, FitsPriority}
use Rattle.journals.specs.Formed.{IsHalf, IsWide}
use Rattle.journal_reading.specs.Reading.{asked_in, behind}
use Rattle.journal_reading.specs.Reading.{both, bytes_in, card_in, card_made, facts_in}
use Rattle.journal_reading.specs.Reading.{field, half, journey_in, made}
use Rattle.journal_reading.specs.Reading.{priority_in}
use Rattle.journal_reading.specs.Reading.{request_in}
use Rattle.journal_reading.specs.Reading.{yes_no_in}
use Rattle.journal_reading.proofs.WordCuts.{Laws, map_some}
use Rattle.journal_reading.proofs.WordCuts.{uncut_append}
use Rattle.journal_reading.proofs.Formats.{Any, BeforeEquals, IsField, behind_some, both_is}
use Rattle.journal_reading.proofs.Formats.{made_is, part_text}
use Rattle.journal_reading.proofs.WordForm.{Always, bytes_field, number_field}
use Rattle.journal_reading.proofs.WordForm.{yes_no_field}
use Rattle.journal_reading.proofs.Requests.{bytes_text, half_field, number_text, params_text}
use Rattle.journal_reading.proofs.Requests.{head_text}
use Rattle.journal_reading.proofs.Requests.{new_priority_text, request_field, request_text}

-- ---- texts whose words are joined by blanks, and those with a blank behind each word

abbrev pub IsSpaced : List ℕ → List ℕ → Type 0
IsSpaced text spaced = (z : List ℕ) → text ++ 32 ∷ z ≡ spaced ++ z

abbrev IsShifted : List ℕ → List ℕ → Type 0
IsShifted text spaced = (z : List ℕ) → text ++ 32 ∷ z ≡ 32 ∷ (spaced ++ z)

more : (h k x y : List ℕ) → IsSpaced h k → IsShifted x y → IsSpaced (h ++ x) (k ++ y)
more h k x y s t z =
    append_assoc h x (32 ∷ z) ∙ ap (λ w. h ++ w) (t z) ∙ s (y ++ z) ∙ sym (append_assoc k y z)

behind_front : (f h k : List ℕ) → IsSpaced h k → IsSpaced (f ++ h) (f ++ k)
behind_front f h k s z =
    append_assoc f h (32 ∷ z) ∙ ap (λ w. f ++ w) (s z) ∙ sym (append_assoc f k z)

shift_word : (name d z : List ℕ) →
    ((32 ∷ (name ++ 32 ∷ [])) ++ d) ++ 32 ∷ z ≡ 32 ∷ ((name ++ 32 ∷ (d ++ 32 ∷ [])) ++ z)
shift_word name d z = simp append_assoc

shift_number : (name : List ℕ) (o : Option ℕ) →
    IsShifted (text.part (32 ∷ (name ++ 32 ∷ [])) o) (part_text name number_text o)
shift_number name None z = refl
shift_number name (Some n) z = shift_word name (decimal n) z

shift_two : (a b z : List ℕ) →
    (a ++ 32 ∷ []) ++ b ++ 32 ∷ z ≡ ((a ++ 32 ∷ []) ++ (b ++ 32 ∷ [])) ++ z
shift_two a b z = simp append_assoc

shift_params : (o : Option Params) →
    IsShifted (text.params o) (part_text (codes "params") params_text o)
shift_params None z = refl
shift_params (Some p) z =
    ap (λ w. codes " params " ++ w) (shift_two (decimal p.mode) (decimal p.range) z)

shift_payload : (o : Option (List ℕ)) →
    IsShifted (text.payload o) (part_text (codes "payload") bytes_text o)
shift_payload None z = refl
shift_payload (Some bs) z =
    ap (λ w. codes " payload " ++ w) (sym (append_assoc (hexadecimal bs) (32 ∷ []) z))

shift_priority : (v : Version) (o : Option ℕ) →
    IsShifted (text.new_priority v o) (new_priority_text v o)
shift_priority First o z = refl
shift_priority Second o z = shift_number (codes "priority") o z

spaced_head : (o : Option Head) → IsSpaced (text.head o) (head_text o)
spaced_head None z = refl
spaced_head (Some h) z = shift_two (decimal h.verdict) (decimal h.id) z

spaced_start : (a : List ℕ) → IsSpaced a (a ++ 32 ∷ [])
spaced_start a z = sym (append_assoc a (32 ∷ []) z)

config_regroup : (a c p l f m z : List ℕ) →
    (((((a ++ c) ++ p) ++ l) ++ f) ++ m) ++ z ≡ (a ++ (c ++ (p ++ (l ++ (f ++ m))))) ++ z
config_regroup a c p l f m z = simp append_assoc

body_regroup : (a m b n z : List ℕ) →
    (((a ++ m) ++ b) ++ n) ++ z ≡ (a ++ (m ++ (b ++ n))) ++ z
body_regroup a m b n z = simp append_assoc

pub spaced_request : (v : Version) (r : Request) →
    IsSpaced (text.request v r) (request_text v r)
spaced_request v (Config q c p l f m) z =
    let a : List ℕ = codes "config " ++ decimal q in
    let b : List ℕ = a ++ 32 ∷ [] in
    let ct = part_text (codes "cmd") number_text c in
    let pt = part_text (codes "params") params_text p in
    let lt = part_text (codes "maxlen") number_text l in
    let ft = part_text (codes "flags") number_text f in
    let mt = part_text (codes "mask") number_text m in
    let ca : List ℕ = a ++ text.part (codes " cmd ") c in
    let pa : List ℕ = ca ++ text.params p in
    let la : List ℕ = pa ++ text.part (codes " maxlen ") l in
    let fa : List ℕ = la ++ text.part (codes " flags ") f in
    more fa ((((b ++ ct) ++ pt) ++ lt) ++ ft) (text.part (codes " mask ") m) mt
    (more la (((b ++ ct) ++ pt) ++ lt) (text.part (codes " flags ") f) ft
    (more pa ((b ++ ct) ++ pt) (text.part (codes " maxlen ") l) lt
    (more ca (b ++ ct) (text.params p) pt
    (more a b (text.part (codes " cmd ") c) ct (spaced_start a) (shift_number (codes "cmd") c))
    (shift_params p)) (shift_number (codes "maxlen") l)) (shift_number (codes "flags") f))
    (shift_number (codes "mask") m) z
    ∙ config_regroup b ct pt lt ft mt z
spaced_request v (Verdict q h m b n) z =
    let a : List ℕ = codes "verdict " ++ (decimal q ++ 32 ∷ []) in
    let mt = part_text (codes "mark") number_text m in
    let bt = part_text (codes "payload") bytes_text b in
    let nt = new_priority_text v n in
    let ma : List ℕ = (a ++ text.head h) ++ text.part (codes " mark ") m in
    more (ma ++ text.payload b) (((a ++ head_text h) ++ mt) ++ bt) (text.new_priority v n) nt
    (more ma ((a ++ head_text h) ++ mt) (text.payload b) bt
    (more (a ++ text.head h) (a ++ head_text h) (text.part (codes " mark ") m) mt
    (behind_front a (text.head h) (head_text h) (spaced_head h)) (shift_number (codes "mark") m))
    (shift_payload b)) (shift_priority v n) z
    ∙ body_regroup (a ++ head_text h) mt bt nt z
spaced_request v (Batch q h m n) z =
    let a : List ℕ = codes "batch " ++ (decimal q ++ 32 ∷ []) in
    let mt = part_text (codes "mark") number_text m in
    let nt = new_priority_text v n in
    more ((a ++ text.head h) ++ text.part (codes " mark ") m) ((a ++ head_text h) ++ mt)
    (text.new_priority v n) nt
    (more (a ++ text.head h) (a ++ head_text h) (text.part (codes " mark ") m) mt
    (behind_front a (text.head h) (head_text h) (spaced_head h)) (shift_number (codes "mark") m))
    (shift_priority v n) z
    ∙ ap (λ w. w ++ z) (append_assoc (a ++ head_text h) mt nt)

-- ---- what ports sent

abbrev pub asked_text : Version → AskWords → List ℕ
asked_text v (Plain r) = request_text v r
asked_text v (Raw bs) = codes "raw " ++ bytes_text bs

pub spaced_ask : (v : Version) (a : AskWords) → IsSpaced (text.ask v a) (asked_text v a)
spaced_ask v (Plain r) z = spaced_request v r z
spaced_ask v (Raw bs) z =
    ap (λ w. codes "raw " ++ w) (sym (append_assoc (hexadecimal bs) (32 ∷ []) z))

not_raw : (v : Version) (r : Request) (rest : List ℕ) →
    behind (codes "raw") (request_text v r ++ rest) ≡ None
not_raw v (Config q c p l f m) rest = refl
not_raw v (Verdict q h m b n) rest = refl
not_raw v (Batch q h m n) rest = refl

asked_again : (v : Version) → Laws → (a : AskWords) (rest : List ℕ) → FitsAsk v a →
    BeforeEquals rest → asked_in v (asked_text v a ++ rest) ≡ Some (a, rest)
unfolding asked_in
asked_again v laws (Plain r) rest fits before =
    ap (λ (o : Option (List ℕ)). option_map_or {T = List ℕ} {U = Option (AskWords × List ℕ)}
    (made Raw (field bytes_in)) o (made Plain (request_in v) (request_text v r ++ rest)))
    (not_raw v r rest)
    ∙ ap (option_map (λ (x : Request × List ℕ). (Plain x.0, x.1)))
    ((request_field v laws).again r rest fits before)
asked_again v laws (Raw bs) rest fits before =
    ap (option_map (λ (x : List ℕ × List ℕ). (Raw x.0, x.1)))
    ((bytes_field laws).again bs rest fits tt)

abbrev IsAskedText : Version → List ℕ → (AskWords × List ℕ) → Type 0
IsAskedText v front p = FitsAsk v p.0 × (front ≡ asked_text v p.0 ++ p.1)

asked_spelled : (v : Version) → Laws → (front : List ℕ) (a : AskWords) (rest : List ℕ) →
    asked_in v front ≡ Some (a, rest) → FitsAsk v a × (front ≡ asked_text v a ++ rest)
unfolding asked_in
asked_spelled v laws front a rest e =
    elim (behind (codes "raw") front) as (λ b. behind (codes "raw") front ≡ b →
    option_map_or {T = List ℕ} {U = Option (AskWords × List ℕ)} (made Raw (field bytes_in)) b
    (made Plain (request_in v) front) ≡ Some (a, rest) → IsAskedText v front (a, rest)) [
      | None ↦ λ is f.
          let x = map_some (λ (y : Request × List ℕ). (Plain y.0, y.1)) (request_in v front)
          (a, rest)
          f in
          subst (IsAskedText v front) x.2 ((request_field v laws).spelled front (x.0).0 (x.0).1 x.1)
      | Some later ↦ λ is f.
          let x = map_some (λ (y : List ℕ × List ℕ). (Raw y.0, y.1)) (field bytes_in later)
          (a, rest) f in
          let s = (bytes_field laws).spelled later (x.0).0 (x.0).1 x.1 in
          subst (IsAskedText v front) x.2 (
            s.0,
            behind_some (codes "raw") front later is ∙ ap (λ z. codes "raw " ++ z) s.1,
          )
    ] refl e

asked_line : (v : Version) → Laws → (a : AskWords) → FitsAsk v a →
    cut_at 10 (asked_text v a) ≡ None
asked_line v laws (Plain r) fits = (request_field v laws).one_line r fits
asked_line v laws (Raw bs) fits =
    uncut_append 10 (codes "raw ") (bytes_text bs) refl ((bytes_field laws).one_line bs fits)

pub asked_field : (v : Version) → Laws →
    IsField (asked_in v) (asked_text v) (FitsAsk v) BeforeEquals
asked_field v laws = record {
  again = asked_again v laws;
  spelled = asked_spelled v laws;
  one_line = asked_line v laws;
}

-- ---- cards

abbrev Journey : Type 0
Journey = (ℕ × ℕ) × ℕ

abbrev journey_text : Journey → List ℕ
journey_text p = (number_text (p.0).0 ++ number_text (p.0).1) ++ number_text p.1

abbrev FitsJourney : Journey → Type 0
FitsJourney p = (IsWide (p.0).0 × IsWide (p.0).1) × IsHalf p.1

abbrev pair_read : List ℕ → Option ((ℕ × ℕ) × List ℕ)
pair_read = both (field digits.decimal) (field digits.decimal)

abbrev pair_text : (ℕ × ℕ) → List ℕ
pair_text p = number_text p.0 ++ number_text p.1

abbrev FitsPair : (ℕ × ℕ) → Type 0
FitsPair p = IsWide p.0 × IsWide p.1

pub pair_field : Laws → IsField pair_read pair_text FitsPair Any
pair_field laws =
    both_is (field digits.decimal) (field digits.decimal) number_text number_text IsWide IsWide Any
    Any (number_field laws) (number_field laws) (λ y rest f a. tt)

journey_field : Laws → IsField journey_in journey_text FitsJourney Any
unfolding journey_in
journey_field laws =
    both_is pair_read (field half) pair_text number_text FitsPair IsHalf Any Any (pair_field laws)
    (half_field laws) (λ y rest f a. tt)

abbrev Marks : Type 0
Marks = (ℕ × ℕ) × ℕ

abbrev Facts : Type 0
Facts = Marks × (ℕ × ℕ)

priority_field : (v : Version) → Laws →
    IsField (priority_in v) (text.priority v) (FitsPriority v) Any
priority_field First laws = record {
  again = λ x rest fits any. ap (λ (n : ℕ). Some (n, rest)) (sym fits);
  spelled = λ front x rest e.
      let parts = some_pair_parts {A = ℕ} 0 x front rest e in (sym parts.0, parts.1);
  one_line = λ x fits. refl;
}
priority_field Second laws = number_field laws

abbrev mark_read : Version → List ℕ → Option ((ℕ × ℕ) × List ℕ)
mark_read v = both (field digits.decimal) (priority_in v)

abbrev mark_text : Version → (ℕ × ℕ) → List ℕ
mark_text v p = number_text p.0 ++ text.priority v p.1

abbrev FitsMark : Version → (ℕ × ℕ) → Type 0
FitsMark v p = IsWide p.0 × FitsPriority v p.1

mark_field : (v : Version) → Laws → IsField (mark_read v) (mark_text v) (FitsMark v) Any
mark_field v laws =
    both_is (field digits.decimal) (priority_in v) number_text (text.priority v) IsWide
    (FitsPriority v) Any Any (number_field laws) (priority_field v laws) (λ y rest f a. tt)

abbrev marks_read : Version → List ℕ → Option (Marks × List ℕ)
marks_read v = both (mark_read v) (field digits.decimal)

abbrev marks_text : Version → Marks → List ℕ
marks_text v p = mark_text v p.0 ++ number_text p.1

abbrev FitsMarks : Version → Marks → Type 0
FitsMarks v p = FitsMark v p.0 × IsWide p.1

marks_field : (v : Version) → Laws → IsField (marks_read v) (marks_text v) (FitsMarks v) Any
marks_field v laws =
    both_is (mark_read v) (field digits.decimal) (mark_text v) number_text (FitsMark v) IsWide Any
    Any (mark_field v laws) (number_field laws) (λ y rest f a. tt)

abbrev timed_text : (ℕ × ℕ) → List ℕ
timed_text p = number_text p.0 ++ number_text p.1

abbrev FitsTimed : (ℕ × ℕ) → Type 0
FitsTimed p = IsWide p.0 × IsHalf p.1

timed_field : Laws → IsField (both (field digits.decimal) (field half)) timed_text FitsTimed Any
timed_field laws =
    both_is (field digits.decimal) (field half) number_text number_text IsWide IsHalf Any Any
    (number_field laws) (half_field laws) (λ y rest f a. tt)

abbrev facts_text : Version → Facts → List ℕ
facts_text v p = marks_text v p.0 ++ timed_text p.1

abbrev FitsFacts : Version → Facts → Type 0
FitsFacts v p = FitsMarks v p.0 × FitsTimed p.1

facts_field : (v : Version) → Laws → IsField (facts_in v) (facts_text v) (FitsFacts v) Any
unfolding facts_in
facts_field v laws =
    both_is (marks_read v) (both (field digits.decimal) (field half)) (marks_text v) timed_text
    (FitsMarks v) FitsTimed Any Any (marks_field v laws) (timed_field laws) (λ y rest f a. tt)

abbrev chances_text : (Bool × Bool) → List ℕ
chances_text p = (text.yes_no p.0 ++ 32 ∷ []) ++ (text.yes_no p.1 ++ 32 ∷ [])

chances_field : IsField (both (field yes_no_in) (field yes_no_in)) chances_text
    (λ (p : Bool × Bool). Unit {0} × Unit {0}) Any
chances_field =
    both_is (field yes_no_in) (field yes_no_in) (λ b. text.yes_no b ++ 32 ∷ [])
    (λ b. text.yes_no b ++ 32 ∷ []) (Always {A = Bool}) (Always {A = Bool}) Any Any yes_no_field
    yes_no_field (λ y rest f a. tt)

abbrev texts_text : (List ℕ × List ℕ) → List ℕ
texts_text p = bytes_text p.0 ++ bytes_text p.1

texts_field : Laws → IsField (both (field bytes_in) (field bytes_in)) texts_text
    (λ (p : List ℕ × List ℕ). IsBytes p.0 × IsBytes p.1) Any
texts_field laws =
    both_is (field bytes_in) (field bytes_in) bytes_text bytes_text IsBytes IsBytes Any Any
    (bytes_field laws) (bytes_field laws) (λ y rest f a. tt)

abbrev Fore : Type 0
Fore = Journey × (Bool × Bool)

abbrev Rear : Type 0
Rear = Facts × (List ℕ × List ℕ)

abbrev fore_text : Fore → List ℕ
fore_text p = journey_text p.0 ++ chances_text p.1

abbrev rear_text : Version → Rear → List ℕ
rear_text v p = facts_text v p.0 ++ texts_text p.1

abbrev FitsFore : Fore → Type 0
FitsFore p = FitsJourney p.0 × (Unit {0} × Unit {0})

abbrev FitsRear : Version → Rear → Type 0
FitsRear v p = FitsFacts v p.0 × (IsBytes (p.1).0 × IsBytes (p.1).1)

abbrev fore_read : List ℕ → Option (Fore × List ℕ)
fore_read = both journey_in (both (field yes_no_in) (field yes_no_in))

abbrev rear_read : Version → List ℕ → Option (Rear × List ℕ)
rear_read v = both (facts_in v) (both (field bytes_in) (field bytes_in))

fore_field : Laws → IsField fore_read fore_text FitsFore Any
fore_field laws =
    both_is journey_in (both (field yes_no_in) (field yes_no_in)) journey_text chances_text
    FitsJourney (λ (p : Bool × Bool). Unit {0} × Unit {0}) Any Any (journey_field laws)
    chances_field (λ y rest f a. tt)

rear_field : (v : Version) → Laws → IsField (rear_read v) (rear_text v) (FitsRear v) Any
rear_field v laws =
    both_is (facts_in v) (both (field bytes_in) (field bytes_in)) (facts_text v) texts_text
    (FitsFacts v) (λ (p : List ℕ × List ℕ). IsBytes p.0 × IsBytes p.1) Any Any (facts_field v laws)
    (texts_field laws) (λ y rest f a. tt)

abbrev pub Told : Type 0
Told = Card × (Bool × Bool)

abbrev card_parts : Told → (Fore × Rear)
card_parts x = (
  (((x.0.number, x.0.visit), x.0.table), x.1),
  (
    (((x.0.mark, x.0.priority), x.0.seconds), (x.0.micros, x.0.protocol)),
    (x.0.link, x.0.bytes),
  ),
)

abbrev pub card_text : Version → Told → List ℕ
card_text v x = fore_text (card_parts x).0 ++ rear_text v (card_parts x).1

abbrev pub FitsTold : Version → Told → Type 0
FitsTold v x = FitsFore (card_parts x).0 × FitsRear v (card_parts x).1

pub card_field : (v : Version) → Laws → IsField (card_in v) (card_text v) (FitsTold v) Any
unfolding card_in
card_field v laws =
    made_is card_made card_parts (both fore_read (rear_read v))
    (λ (p : Fore × Rear). fore_text p.0 ++ rear_text v p.1)
    (λ (p : Fore × Rear). FitsFore p.0 × FitsRear v p.1) Any (λ b. refl) (λ a. refl)
    (both_is fore_read (rear_read v) fore_text (rear_text v) FitsFore (FitsRear v) Any Any
    (fore_field laws) (rear_field v laws) (λ y rest f a. tt))

pub fits_told : (v : Version) (x : Told) → FitsCard v x.0 → FitsTold v x
fits_told v x f = (
  (((f.number, f.visit), f.table), (tt, tt)),
  ((((f.mark, f.priority), f.seconds), (f.micros, f.protocol)), (f.link, f.bytes)),
)

pub told_fits : (v : Version) (x : Told) → FitsTold v x → FitsCard v x.0
told_fits v x f = record {
  number = (((f.0).0).0).0;
  visit = (((f.0).0).0).1;
  table = ((f.0).0).1;
  mark = ((((f.1).0).0).0).0;
  priority = ((((f.1).0).0).0).1;
  seconds = (((f.1).0).0).1;
  micros = (((f.1).0).1).0;
  protocol = (((f.1).0).1).1;
  link = ((f.1).1).0;
  bytes = ((f.1).1).1;
}

card_regroup : (n v t b r m q s u p l x : List ℕ) →
    ((((((((n ++ 32 ∷ []) ++ v) ++ 32 ∷ []) ++ t) ++ 32 ∷ [])
    ++ (((b ++ 32 ∷ []) ++ r) ++ 32 ∷ []))
    ++ ((((((((m ++ 32 ∷ []) ++ q) ++ s) ++ 32 ∷ []) ++ u) ++ 32 ∷ []) ++ p) ++ 32 ∷ []))
    ++ l ++ 32 ∷ []) ++ x ++ 32 ∷ []
    ≡ ((((n ++ 32 ∷ []) ++ (v ++ 32 ∷ [])) ++ (t ++ 32 ∷ []))
    ++ ((b ++ 32 ∷ []) ++ (r ++ 32 ∷ [])))
    ++ (((((m ++ 32 ∷ []) ++ q) ++ (s ++ 32 ∷ [])) ++ ((u ++ 32 ∷ []) ++ (p ++ 32 ∷ [])))
    ++ ((l ++ 32 ∷ []) ++ (x ++ 32 ∷ [])))
card_regroup n v t b r m q s u p l x = simp append_assoc

pub card_told : (v : Version) (c : Card) (b r : Bool) →
    text.card v c (text.yes_no b) (text.yes_no r) ≡ card_text v (c, (b, r))
card_told v c b r =
    card_regroup (decimal c.number) (decimal c.visit) (decimal c.table) (text.yes_no b)
    (text.yes_no r) (decimal c.mark) (text.priority v c.priority) (decimal c.seconds)
    (decimal c.micros) (decimal c.protocol)
    (hexadecimal c.link) (hexadecimal c.bytes)
