-- A line of a journal is read exactly where it is written.
use Rattle.std.proofs.Common.{◌≡◌, ℕ, Bool, eqb, List}
use Rattle.std.proofs.Common.{[], ◌∷◌, ◌++◌, Option, Some, None, ◌∙◌, refl, sym, ap, subst}
use Rattle.std.proofs.Common.{append_assoc, decimal, eq-eqb}
use Rattle.std.specs.Prelude.{bytes_eq, codes, option_map, IfSome}
use Rattle.std.proofs.lemmas.Bool.{eqb-true}
use Rattle.std.proofs.lemmas.Option.{none-some, same_Some, cond_some}
use Rattle.text_lines.specs.Words.{◌>>=◌, cut_at}
use Rattle.text_lines.specs.Digits as digits
use Rattle.packet_entry.specs.declared.packet.Card.{Card}
use Rattle.nfqa_msgs.specs.declared.request.Request.{Request}
use Rattle.queue_core.specs.declared.offers.Outcome.{Outcome}
use Rattle.queue_core.specs.declared.event.Event.{Event}
use Rattle.queue_core.specs.declared.event.Event.TheVariants.{Arrive, Ask, PortClosed, DeviceDown}
use Rattle.queue_core.specs.declared.event.Reply.{Reply}
use Rattle.queue_core.specs.declared.event.Reply.TheVariants.{Arrived, Answer, Flushed}
use Rattle.histories.specs.declared.entry.Entry.{Entry}
use Rattle.histories.specs.declared.log.Did.{Did}
use Rattle.histories.specs.declared.log.Did.TheVariants.{Received, Sent, Closed}
use Rattle.histories.specs.declared.log.AskWords.{AskWords}
use Rattle.journal_reading.specs.declared.line.Line.{Line}
use Rattle.journal_reading.specs.declared.line.Line.TheVariants.{Heading, EntryLine, PortLine}
use Rattle.journal_reading.specs.declared.line.Line.TheVariants.{DidLine}
use Rattle.journal_reading.specs.declared.line.Line.TheVariants.{End}
use Rattle.journals.specs.declared.version.Version.{Version}
use Rattle.journals.specs.declared.version.Version.TheVariants.{First, Second}
use Rattle.journals.specs.Format as text
use Rattle.journal_reading.specs.Lines.{FitsLine, line_text}
use Rattle.journals.specs.Formed.{FitsAsk, FitsDid, FitsOutcome, FitsRequest}
use Rattle.journals.specs.Formed.{IsEventAt, IsHalf, IsReplyTo, IsWide}
use Rattle.histories.specs.Happenings.{queue_of}
use Rattle.journal_reading.specs.Reading.{answered_in, arrival_in, ask_in, ask_made, asked_in}
use Rattle.journal_reading.specs.Reading.{behind}
use Rattle.journal_reading.specs.Reading.{both, card_in, device_down_in, field, half, last, line_by}
use Rattle.journal_reading.specs.Reading.{line_in, outcome_in, port_closed_in, received_in}
use Rattle.journal_reading.specs.Reading.{request_in}
use Rattle.journal_reading.specs.Reading.{said_in, sent_in}
use Rattle.journal_reading.proofs.WordCuts.{Laws, bind_some, cut_some, map_some, taken}
use Rattle.journal_reading.proofs.WordCuts.{uncut_append}
use Rattle.journal_reading.proofs.WordCuts.{word_is}
use Rattle.journal_reading.proofs.Formats.{Any, BeforeEquals, IsField, IsWord, behind_some, both_is}
use Rattle.journal_reading.proofs.Formats.{last_is}
use Rattle.journal_reading.proofs.WordForm.{number_field, number_word, outcome_word, pick}
use Rattle.journal_reading.proofs.WordForm.{said_text}
use Rattle.journal_reading.proofs.WordForm.{said_word}
use Rattle.journal_reading.proofs.Requests.{half_field, number_text, request_field, request_text}
use Rattle.journal_reading.proofs.Lines.{FitsTold, Told, asked_field, asked_text, card_field}
use Rattle.journal_reading.proofs.Lines.{card_text, card_told, fits_told, pair_field, spaced_ask}
use Rattle.journal_reading.proofs.Lines.{spaced_request, told_fits}

-- ---- arrivals

abbrev Arrival : Type 0
Arrival = (ℕ × Told) × Outcome

abbrev arrival_read : Version → List ℕ → Option Arrival
arrival_read v = last (both (field half) (card_in v)) outcome_in

abbrev arrival_text : Version → Arrival → List ℕ
arrival_text v x = (number_text (x.0).0 ++ card_text v (x.0).1) ++ text.outcome x.1

abbrev FitsArrival : Version → Arrival → Type 0
FitsArrival v x = (IsHalf (x.0).0 × FitsTold v (x.0).1) × FitsOutcome x.1

arrival_word : (v : Version) → Laws → IsWord (arrival_read v) (arrival_text v) (FitsArrival v)
arrival_word v laws =
    last_is (both (field half) (card_in v)) outcome_in (λ (p : ℕ × Told). number_text p.0
    ++ card_text v p.1) text.outcome (λ (p : ℕ × Told). IsHalf p.0 × FitsTold v p.1) FitsOutcome Any
    (both_is (field half) (card_in v) number_text (card_text v) IsHalf (FitsTold v) Any Any
    (half_field laws) (card_field v laws) (λ y rest f a. tt)) (outcome_word laws) (λ y f. tt)

-- ---- requests

abbrev Caller : Type 0
Caller = ℕ × (ℕ × ℕ)

abbrev Pair : Type 0
Pair = ℕ × ℕ

abbrev Asking : Type 0
Asking = (Caller × Request) × Pair

abbrev caller_read : List ℕ → Option (Caller × List ℕ)
caller_read = both (field half) (both (field digits.decimal) (field digits.decimal))

abbrev caller_text : Caller → List ℕ
caller_text p = number_text p.0 ++ (number_text (p.1).0 ++ number_text (p.1).1)

abbrev FitsCaller : Caller → Type 0
FitsCaller p = IsHalf p.0 × (IsWide (p.1).0 × IsWide (p.1).1)

caller_field : Laws → IsField caller_read caller_text FitsCaller Any
caller_field laws =
    both_is (field half) (both (field digits.decimal) (field digits.decimal)) number_text
    (λ (p : Pair). number_text p.0 ++ number_text p.1) IsHalf
    (λ (p : Pair). IsWide p.0 × IsWide p.1) Any Any (half_field laws) (pair_field laws)
    (λ y rest f a. tt)

-- `ERRNO TAKEN`
counts_word : Laws → IsWord (last (field half) digits.decimal)
    (λ (p : Pair). number_text p.0 ++ decimal p.1) (λ (p : Pair). IsHalf p.0 × IsWide p.1)
counts_word laws =
    last_is (field half) digits.decimal number_text decimal IsHalf IsWide Any (half_field laws)
    (number_word laws) (λ y f. tt)

abbrev answered_text : Pair → List ℕ
answered_text p = 61 ∷ 32 ∷ (number_text p.0 ++ decimal p.1)

answered_word : Laws → IsWord answered_in answered_text (λ (p : Pair). IsHalf p.0 × IsWide p.1)
answered_word laws = record {
  again = λ x fits. (counts_word laws).again x fits;
  spelled = λ word x e.
      let rest = bind_some (behind (codes "=") word) (last (field half) digits.decimal) x e in
      let s = (counts_word laws).spelled rest.0 x rest.2 in
      (s.0, behind_some (codes "=") word rest.0 rest.1 ∙ ap (λ z. 61 ∷ 32 ∷ z) s.1);
  one_line = λ x fits. uncut_append 10 (codes "= ") (number_text x.0 ++ decimal x.1) refl
      ((counts_word laws).one_line x fits);
}

abbrev asking_read : Version → List ℕ → Option Asking
asking_read v = last (both caller_read (request_in v)) answered_in

abbrev asking_text : Version → Asking → List ℕ
asking_text v x = (caller_text (x.0).0 ++ request_text v (x.0).1) ++ answered_text x.1

abbrev FitsAsking : Version → Asking → Type 0
FitsAsking v x = (FitsCaller (x.0).0 × FitsRequest v (x.0).1) × (IsHalf (x.1).0 × IsWide (x.1).1)

asking_word : (v : Version) → Laws → IsWord (asking_read v) (asking_text v) (FitsAsking v)
asking_word v laws =
    last_is (both caller_read (request_in v)) answered_in (λ (p : Caller × Request). caller_text p.0
    ++ request_text v p.1) answered_text (λ (p : Caller × Request). FitsCaller p.0
    × FitsRequest v p.1) (λ (p : Pair). IsHalf p.0 × IsWide p.1) BeforeEquals
    (both_is caller_read (request_in v) caller_text (request_text v) FitsCaller (FitsRequest v) Any
    BeforeEquals (caller_field laws) (request_field v laws) (λ y rest f a. tt)) (answered_word laws)
    (λ y f. (number_text y.0 ++ decimal y.1, refl))

-- ---- closed ports, devices, notices

abbrev Triple : Type 0
Triple = (ℕ × ℕ) × ℕ

abbrev triple_read : List ℕ → Option Triple
triple_read = last (both (field half) (field digits.decimal)) digits.decimal

abbrev triple_text : Triple → List ℕ
triple_text x = (number_text (x.0).0 ++ number_text (x.0).1) ++ decimal x.1

abbrev FitsTriple : Triple → Type 0
FitsTriple x = (IsHalf (x.0).0 × IsWide (x.0).1) × IsWide x.1

triple_word : Laws → IsWord triple_read triple_text FitsTriple
triple_word laws =
    last_is (both (field half) (field digits.decimal)) digits.decimal (λ (p : Pair). number_text p.0
    ++ number_text p.1) decimal (λ (p : Pair). IsHalf p.0 × IsWide p.1) IsWide Any
    (both_is (field half) (field digits.decimal) number_text number_text IsHalf IsWide Any Any
    (half_field laws) (number_field laws) (λ y rest f a. tt)) (number_word laws) (λ y f. tt)

-- ---- messages

abbrev Message : Type 0
Message = (ℕ × AskWords) × Option ℕ

abbrev message_read : Version → List ℕ → Option Message
message_read v = last (both (field digits.decimal) (asked_in v)) said_in

abbrev message_text : Version → Message → List ℕ
message_text v x = (number_text (x.0).0 ++ asked_text v (x.0).1) ++ said_text x.1

abbrev FitsMessage : Version → Message → Type 0
FitsMessage v x = (IsWide (x.0).0 × FitsAsk v (x.0).1) × IfSome x.1 IsHalf

said_before : (o : Option ℕ) → BeforeEquals (said_text o)
said_before None = (45 ∷ [], refl)
said_before (Some n) = (decimal n, refl)

message_word : (v : Version) → Laws → IsWord (message_read v) (message_text v) (FitsMessage v)
message_word v laws =
    last_is (both (field digits.decimal) (asked_in v)) said_in (λ (p : ℕ × AskWords).
    number_text p.0 ++ asked_text v p.1) said_text (λ (p : ℕ × AskWords). IsWide p.0
    × FitsAsk v p.1) (λ o. IfSome o IsHalf) BeforeEquals
    (both_is (field digits.decimal) (asked_in v) number_text (asked_text v) IsWide (FitsAsk v) Any
    BeforeEquals (number_field laws) (asked_field v laws) (λ y rest f a. tt)) (said_word laws)
    (λ y f. said_before y)

-- ---- the lines as they are written

arrival_told : (v : Version) (q : ℕ) (c : Card) (b r : Bool) (o : Outcome) →
    text.event v q (Arrive c b r) ++ text.reply (Arrived o)
    ≡ codes "A " ++ arrival_text v ((q, (c, (b, r))), o)
arrival_told v q c b r o =
    ap (λ w. (codes "A " ++ (decimal q ++ 32 ∷ []) ++ w) ++ text.outcome o) (card_told v c b r)

asking_regroup : (q p c r s z : List ℕ) → r ++ 32 ∷ z ≡ s ++ z →
    ((((((q ++ 32 ∷ []) ++ p) ++ 32 ∷ []) ++ c) ++ 32 ∷ []) ++ r) ++ 32 ∷ z
    ≡ (((q ++ 32 ∷ []) ++ ((p ++ 32 ∷ []) ++ (c ++ 32 ∷ []))) ++ s) ++ z
asking_regroup q p c r s z spaced =
    let h : List ℕ = ((((q ++ 32 ∷ []) ++ p) ++ 32 ∷ []) ++ c) ++ 32 ∷ [] in
    let k : List ℕ = (q ++ 32 ∷ []) ++ ((p ++ 32 ∷ []) ++ (c ++ 32 ∷ [])) in
    let same : h ≡ k = simp append_assoc in
    append_assoc h r (32 ∷ z) ∙ ap (λ w. h ++ w) spaced ∙ sym (append_assoc h s z)
    ∙ ap (λ w. (w ++ s) ++ z) same

asking_told : (v : Version) (q p c : ℕ) (r : Request) (errno count : ℕ) →
    text.event v q (Ask p c r) ++ text.reply (Answer errno count)
    ≡ codes "M " ++ asking_text v (((q, (p, c)), r), (errno, count))
asking_told v q p c r errno count =
    ap (λ w. codes "M " ++ w) (asking_regroup (decimal q) (decimal p) (decimal c) (text.request v r)
    (request_text v r) (answered_text (errno, count)) (spaced_request v r
    (answered_text (errno, count))))

-- a line of three numbers: what it makes of them fits if they do, and is written so
record IsTripleLine (v : Version) (letter : List ℕ) (made : Triple → Line) : Type 0 where
  fits : (x : Triple) → FitsTriple x → FitsLine v (made x)
  told : (x : Triple) → line_text v (made x) ≡ letter ++ triple_text x

abbrev closing : Triple → Entry
closing x = record { queue = (x.0).0; event = PortClosed (x.0).1; reply = Flushed x.1 }

abbrev falling : Triple → Entry
falling x = record { queue = (x.0).0; event = DeviceDown (x.0).1; reply = Flushed x.1 }

abbrev notice : Triple → Did
notice x = Received (x.0).0 (x.0).1 x.1

flushed_regroup : (letter q p t : List ℕ) →
    (((letter ++ q) ++ 32 ∷ []) ++ p) ++ 32 ∷ t ≡ letter ++ (((q ++ 32 ∷ []) ++ (p ++ 32 ∷ [])) ++ t)
flushed_regroup letter q p t = simp append_assoc

closing_line : (v : Version) → IsTripleLine v (codes "C ") (λ x. EntryLine (closing x))
closing_line v = record {
  fits = λ x fits. record { queue = (fits.0).0; event = (fits.0).1; reply = fits.1 };
  told = λ x.
      flushed_regroup (codes "C ") (decimal (x.0).0) (decimal (x.0).1) (decimal x.1);
}

falling_line : (v : Version) → IsTripleLine v (codes "D ") (λ x. EntryLine (falling x))
falling_line v = record {
  fits = λ x fits. record { queue = (fits.0).0; event = (fits.0).1; reply = fits.1 };
  told = λ x.
      flushed_regroup (codes "D ") (decimal (x.0).0) (decimal (x.0).1) (decimal x.1);
}

received_regroup : (q p t : List ℕ) → (((q ++ 32 ∷ []) ++ p) ++ 32 ∷ []) ++ t
    ≡ ((q ++ 32 ∷ []) ++ (p ++ 32 ∷ [])) ++ t
received_regroup q p t = simp append_assoc

notice_line : (v : Version) → IsTripleLine v (codes "R ") (λ x. DidLine (notice x))
notice_line v = record {
  fits = λ x fits. ((fits.0).0, (fits.0).1, fits.1);
  told = λ x.
      ap (λ w. codes "R " ++ w)
      (received_regroup (decimal (x.0).0) (decimal (x.0).1) (decimal x.1));
}

message_told : (v : Version) (c : ℕ) (a : AskWords) (o : Option ℕ) →
    text.did_line v (Sent c a o) ≡ codes "S " ++ message_text v ((c, a), o)
message_told v c a None =
    ap (λ w. codes "S " ++ w) (append_assoc (number_text c) (text.ask v a) (32 ∷ codes "= -")
    ∙ ap (λ w. number_text c ++ w) (spaced_ask v a (codes "= -"))
    ∙ sym (append_assoc (number_text c) (asked_text v a) (codes "= -")))
message_told v c a (Some n) =
    ap (λ w. codes "S " ++ w) (append_assoc (number_text c) (text.ask v a)
    (32 ∷ (codes "= " ++ decimal n))
    ∙ ap (λ w. number_text c ++ w) (spaced_ask v a (codes "= " ++ decimal n))
    ∙ sym (append_assoc (number_text c) (asked_text v a) (codes "= " ++ decimal n)))

-- ---- and as they are read

ask_again : (v : Version) → Laws → (q p c : ℕ) (r : Request) (errno count : ℕ) →
    FitsAsking v (((q, (p, c)), r), (errno, count)) → queue_of r ≡ q →
    ask_in v (asking_text v (((q, (p, c)), r), (errno, count)))
    ≡ Some (record { queue = q; event = Ask p c r; reply = Answer errno count })
unfolding ask_in
ask_again v laws q p c r errno count fits same =
    ap (λ (o : Option Asking). o >>= ask_made)
    ((asking_word v laws).again (((q, (p, c)), r), (errno, count)) fits)
    ∙ taken (eqb (queue_of r) q) _ None (eq-eqb (queue_of r) q same)

triple_again : {X : Type 0} → Laws → (outer : X → Line) (made : Triple → X) (x : Triple) →
    FitsTriple x →
    option_map outer (option_map made (triple_read (triple_text x))) ≡ Some (outer (made x))
triple_again laws outer made x fits =
    ap (λ (read : Option Triple). option_map outer (option_map made read))
    ((triple_word laws).again x fits)

entry_again : (v : Version) → Laws → (q : ℕ) (event : Event) (reply : Reply) → IsHalf q →
    IsEventAt v q event →
    IsReplyTo event reply → line_in v (text.event v q event ++ text.reply reply)
    ≡ Some (EntryLine (record { queue = q; event = event; reply = reply }))
unfolding line_in line_by arrival_in port_closed_in device_down_in
entry_again v laws q (Arrive c b r) (Arrived o) qf ef rf =
    ap (line_in v) (arrival_told v q c b r o)
    ∙ ap (λ (x : Option Arrival). option_map EntryLine (option_map (λ (y : Arrival). record {
      queue = (y.0).0;
      event = Arrive ((y.0).1).0 (((y.0).1).1).0 (((y.0).1).1).1;
      reply = Arrived y.1;
    }) x)) ((arrival_word v laws).again ((q, (c, (b, r))), o)
    ((qf, fits_told v (c, (b, r)) ef), rf))
entry_again v laws q (Arrive c b r) (Answer e t) qf ef rf = absurd rf
entry_again v laws q (Arrive c b r) (Flushed t) qf ef rf = absurd rf
entry_again v laws q (Ask p c r) (Arrived o) qf ef rf = absurd rf
entry_again v laws q (Ask p c r) (Answer e t) qf ef rf =
    ap (line_in v) (asking_told v q p c r e t)
    ∙ ap (option_map EntryLine) (ask_again v laws q p c r e t
    (((qf, (ef.0, ef.1)), ef.2), (rf.0, rf.1)) ef.3)
entry_again v laws q (Ask p c r) (Flushed t) qf ef rf = absurd rf
entry_again v laws q (PortClosed p) (Arrived o) qf ef rf = absurd rf
entry_again v laws q (PortClosed p) (Answer e t) qf ef rf = absurd rf
entry_again v laws q (PortClosed p) (Flushed t) qf ef rf =
    ap (line_in v) ((closing_line v).told ((q, p), t))
    ∙ triple_again laws EntryLine closing ((q, p), t) ((qf, ef), rf)
entry_again v laws q (DeviceDown p) (Arrived o) qf ef rf = absurd rf
entry_again v laws q (DeviceDown p) (Answer e t) qf ef rf = absurd rf
entry_again v laws q (DeviceDown p) (Flushed t) qf ef rf =
    ap (line_in v) ((falling_line v).told ((q, p), t))
    ∙ triple_again laws EntryLine falling ((q, p), t) ((qf, ef), rf)

did_again : (v : Version) → Laws → (d : Did) → FitsDid v d →
    line_in v (text.did_line v d) ≡ Some (DidLine d)
unfolding line_in line_by received_in sent_in
did_again v laws (Received q n t) fits =
    ap (line_in v) ((notice_line v).told ((q, n), t))
    ∙ triple_again laws DidLine notice ((q, n), t) ((fits.0, fits.1), fits.2)
did_again v laws (Sent c a o) fits =
    ap (line_in v) (message_told v c a o)
    ∙ ap (λ (x : Option Message). option_map DidLine (option_map (λ (y : Message).
    Sent (y.0).0 (y.0).1 y.1) x)) ((message_word v laws).again ((c, a), o)
    ((fits.0, fits.1), fits.2))
did_again v laws Closed fits = refl

line_again : (v : Version) → Laws → (l : Line) → FitsLine v l → line_in v (line_text v l) ≡ Some l
unfolding line_in line_by
line_again v laws Heading fits =
    taken (bytes_eq (text.title v) (text.title v)) _ _ (word_is (text.title v) (text.title v) refl)
line_again v laws (EntryLine e) fits =
    entry_again v laws e.queue e.event e.reply fits.queue fits.event fits.reply
line_again v laws (PortLine p) fits = ap (option_map PortLine) ((number_word laws).again p fits)
line_again v laws (DidLine d) fits = did_again v laws d fits
line_again v laws End fits = refl

-- ---- what is read is written so

abbrev IsLineText : Version → List ℕ → Line → Type 0
IsLineText v line l = FitsLine v l × (line ≡ line_text v l)

arrival_spelled : (v : Version) → Laws → (line rest : List ℕ) (l : Line) →
    line ≡ codes "A " ++ rest →
    option_map EntryLine (arrival_in v rest) ≡ Some l → IsLineText v line l
unfolding arrival_in
arrival_spelled v laws line rest l is e =
    let entry = map_some EntryLine (arrival_in v rest) l e in
    let x = map_some _ (arrival_read v rest) entry.0 entry.1 in
    let s = (arrival_word v laws).spelled rest x.0 x.1 in
    let t = s.0 in
    let told = (((x.0).0).1) in
    subst (IsLineText v line) (ap EntryLine x.2 ∙ entry.2) (
      record { queue = (t.0).0; event = told_fits v told (t.0).1; reply = t.1 },
      is ∙ ap (λ w. codes "A " ++ w) s.1
          ∙ sym (arrival_told v ((x.0).0).0 told.0 (told.1).0 (told.1).1 (x.0).1),
    )

asking_spelled : (v : Version) → Laws → (line rest : List ℕ) (l : Line) →
    line ≡ codes "M " ++ rest →
    option_map EntryLine (ask_in v rest) ≡ Some l → IsLineText v line l
unfolding ask_in
asking_spelled v laws line rest l is e =
    let entry = map_some EntryLine (ask_in v rest) l e in
    let x = bind_some (asking_read v rest) ask_made entry.0 entry.1 in
    let s = (asking_word v laws).spelled rest x.0 x.1 in
    let t = s.0 in
    let made = cond_some (eqb (queue_of ((x.0).0).1) (((x.0).0).0).0) _ entry.0 x.2 in
    subst (IsLineText v line) (ap EntryLine made.1 ∙ entry.2) (
      record {
        queue = ((t.0).0).0;
        event = ((((t.0).0).1).0, (((t.0).0).1).1, (t.0).1, eqb-true _ _ made.0);
        reply = ((t.1).0, (t.1).1);
      },
      is ∙ ap (λ w. codes "M " ++ w) s.1
          ∙ sym (asking_told v (((x.0).0).0).0 ((((x.0).0).0).1).0 ((((x.0).0).0).1).1 ((x.0).0).1
          ((x.0).1).0 ((x.0).1).1),
    )

triple_spelled : {X : Type 0} (v : Version) → Laws → (letter : List ℕ) (outer : X → Line)
    (made : Triple → X) → IsTripleLine v letter (λ x. outer (made x)) →
    (line rest : List ℕ) (l : Line) → line ≡ letter ++ rest →
    option_map outer (option_map made (triple_read rest)) ≡ Some l → IsLineText v line l
triple_spelled v laws letter outer made is_line line rest l is e =
    let whole = map_some outer (option_map made (triple_read rest)) l e in
    let x = map_some made (triple_read rest) whole.0 whole.1 in
    let s = (triple_word laws).spelled rest x.0 x.1 in
    subst (IsLineText v line) (ap outer x.2 ∙ whole.2) (
      is_line.fits x.0 s.0,
      is ∙ ap (λ w. letter ++ w) s.1 ∙ sym (is_line.told x.0),
    )

sent_spelled : (v : Version) → Laws → (line rest : List ℕ) (l : Line) → line ≡ codes "S " ++ rest →
    option_map DidLine (sent_in v rest) ≡ Some l → IsLineText v line l
unfolding sent_in
sent_spelled v laws line rest l is e =
    let did = map_some DidLine (sent_in v rest) l e in
    let x = map_some _ (message_read v rest) did.0 did.1 in
    let s = (message_word v laws).spelled rest x.0 x.1 in
    let t = s.0 in
    subst (IsLineText v line) (ap DidLine x.2 ∙ did.2) (
      ((t.0).0, (t.0).1, t.1),
      is ∙ ap (λ w. codes "S " ++ w) s.1
          ∙ sym (message_told v ((x.0).0).0 ((x.0).0).1 (x.0).1),
    )

port_spelled : (v : Version) → Laws → (line rest : List ℕ) (l : Line) → line ≡ codes "P " ++ rest →
    option_map PortLine (digits.decimal rest) ≡ Some l → IsLineText v line l
port_spelled v laws line rest l is e =
    let port = map_some PortLine (digits.decimal rest) l e in
    let s = (number_word laws).spelled rest port.0 port.1 in
    subst (IsLineText v line) port.2 (s.0, is ∙ ap (λ w. codes "P " ++ w) s.1)

by_spelled : (v : Version) → Laws → (line word rest : List ℕ) (l : Line) →
    line ≡ word ++ 32 ∷ rest →
    line_by v word rest ≡ Some l → IsLineText v line l
unfolding line_by port_closed_in device_down_in received_in
by_spelled v laws line word rest l is e =
    let front = λ (name : List ℕ) (named : word ≡ name).
    is ∙ ap (λ z. z ++ 32 ∷ rest) named in
    pick word (codes "A") _ _ l (IsLineText v line l) e
    (λ n f. arrival_spelled v laws line rest l (front (codes "A") n) f)
    (λ e1. pick word (codes "M") _ _ l (IsLineText v line l) e1
    (λ n f. asking_spelled v laws line rest l (front (codes "M") n) f)
    (λ e2. pick word (codes "C") _ _ l (IsLineText v line l) e2
    (λ n f. triple_spelled v laws (codes "C ") EntryLine closing (closing_line v) line rest l (front (codes "C") n) f)
    (λ e3. pick word (codes "D") _ _ l (IsLineText v line l) e3
    (λ n f. triple_spelled v laws (codes "D ") EntryLine falling (falling_line v) line rest l (front (codes "D") n) f)
    (λ e4. pick word (codes "R") _ _ l (IsLineText v line l) e4
    (λ n f. triple_spelled v laws (codes "R ") DidLine notice (notice_line v) line rest l (front (codes "R") n) f)
    (λ e5. pick word (codes "S") _ _ l (IsLineText v line l) e5
    (λ n f. sent_spelled v laws line rest l (front (codes "S") n) f)
    (λ e6. pick word (codes "P") _ _ l (IsLineText v line l) e6
    (λ n f. port_spelled v laws line rest l (front (codes "P") n) f)
    (λ e7. absurd (none-some l e7))))))))

line_spelled : (v : Version) → Laws → (line : List ℕ) (l : Line) → line_in v line ≡ Some l →
    IsLineText v line l
unfolding line_in
line_spelled v laws line l e =
    pick line (text.title v) _ _ l (IsLineText v line l) e
    (λ n f. subst (IsLineText v line) (same_Some Heading l f) (tt, n))
    (λ e1. pick line (codes "end") _ _ l (IsLineText v line l) e1
    (λ n f. subst (IsLineText v line) (same_Some End l f) (tt, n))
    (λ e2. pick line (codes "X") _ _ l (IsLineText v line l) e2
    (λ n f. subst (IsLineText v line) (same_Some (DidLine Closed) l f) (tt, n))
    (λ e3. let cut = bind_some (cut_at 32 line) _ l e3 in
    by_spelled v laws line (cut.0).0 (cut.0).1 l (cut_some 32 line cut.0 cut.1) cut.2)))

-- ---- no line has a line's end in it

entry_line : (v : Version) → Laws → (q : ℕ) (event : Event) (reply : Reply) → IsHalf q →
    IsEventAt v q event →
    IsReplyTo event reply → cut_at 10 (text.event v q event ++ text.reply reply) ≡ None
entry_line v laws q (Arrive c b r) (Arrived o) qf ef rf =
    ap (cut_at 10) (arrival_told v q c b r o)
    ∙ uncut_append 10 (codes "A ") (arrival_text v ((q, (c, (b, r))), o)) refl
    ((arrival_word v laws).one_line ((q, (c, (b, r))), o) ((qf, fits_told v (c, (b, r)) ef), rf))
entry_line v laws q (Arrive c b r) (Answer e t) qf ef rf = absurd rf
entry_line v laws q (Arrive c b r) (Flushed t) qf ef rf = absurd rf
entry_line v laws q (Ask p c r) (Arrived o) qf ef rf = absurd rf
entry_line v laws q (Ask p c r) (Answer e t) qf ef rf =
    ap (cut_at 10) (asking_told v q p c r e t)
    ∙ uncut_append 10 (codes "M ") (asking_text v (((q, (p, c)), r), (e, t))) refl
    ((asking_word v laws).one_line (((q, (p, c)), r), (e, t))
    (((qf, (ef.0, ef.1)), ef.2), (rf.0, rf.1)))
entry_line v laws q (Ask p c r) (Flushed t) qf ef rf = absurd rf
entry_line v laws q (PortClosed p) (Arrived o) qf ef rf = absurd rf
entry_line v laws q (PortClosed p) (Answer e t) qf ef rf = absurd rf
entry_line v laws q (PortClosed p) (Flushed t) qf ef rf =
    ap (cut_at 10) ((closing_line v).told ((q, p), t))
    ∙ uncut_append 10 (codes "C ") (triple_text ((q, p), t)) refl
    ((triple_word laws).one_line ((q, p), t) ((qf, ef), rf))
entry_line v laws q (DeviceDown p) (Arrived o) qf ef rf = absurd rf
entry_line v laws q (DeviceDown p) (Answer e t) qf ef rf = absurd rf
entry_line v laws q (DeviceDown p) (Flushed t) qf ef rf =
    ap (cut_at 10) ((falling_line v).told ((q, p), t))
    ∙ uncut_append 10 (codes "D ") (triple_text ((q, p), t)) refl
    ((triple_word laws).one_line ((q, p), t) ((qf, ef), rf))

did_line : (v : Version) → Laws → (d : Did) → FitsDid v d → cut_at 10 (text.did_line v d) ≡ None
did_line v laws (Received q n t) fits =
    ap (cut_at 10) ((notice_line v).told ((q, n), t))
    ∙ uncut_append 10 (codes "R ") (triple_text ((q, n), t)) refl
    ((triple_word laws).one_line ((q, n), t) ((fits.0, fits.1), fits.2))
did_line v laws (Sent c a o) fits =
    ap (cut_at 10) (message_told v c a o)
    ∙ uncut_append 10 (codes "S ") (message_text v ((c, a), o)) refl
    ((message_word v laws).one_line ((c, a), o) ((fits.0, fits.1), fits.2))
did_line v laws Closed fits = refl

pub title_whole : (v : Version) → cut_at 10 (text.title v) ≡ None
title_whole First = refl
title_whole Second = refl

one_line : (v : Version) → Laws → (l : Line) → FitsLine v l → cut_at 10 (line_text v l) ≡ None
one_line v laws Heading fits = title_whole v
one_line v laws (EntryLine e) fits =
    entry_line v laws e.queue e.event e.reply fits.queue fits.event fits.reply
one_line v laws (PortLine p) fits =
    uncut_append 10 (codes "P ") (decimal p) refl ((number_word laws).one_line p fits)
one_line v laws (DidLine d) fits = did_line v laws d fits
one_line v laws End fits = refl

-- what is read of a line is what it says
pub line_word : (v : Version) → Laws → IsWord (line_in v) (line_text v) (FitsLine v)
line_word v laws = record {
  again = line_again v laws;
  spelled = line_spelled v laws;
  one_line = one_line v laws;
}
