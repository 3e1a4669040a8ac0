-- The whole file: it is the file of one capture or has one fault.
use Rattle.std.proofs.Common.{◌≡◌, ℕ, zero, suc, ◌+◌, ◌-◌, ◌*◌, ◌<◌, ◌≤◌, Bool, true, false, List}
use Rattle.std.proofs.Common.{[], ◌∷◌, ◌++◌, length, take, drop, Result, Ok, Err, refl, sym, ap}
use Rattle.std.proofs.Common.{subst, ◌∙◌, append_assoc, arith, ◌⊎◌, inl, inr}
use Rattle.std.specs.List.{flat_map, AllByRecursion}
use Rattle.std.proofs.lemmas.Bool.{cases_lt}
use Rattle.std.proofs.lemmas.List.{append-nil, append_cancel_left, length-append, length-take-le}
use Rattle.std.proofs.lemmas.List.{length-drop, take-append-drop, take_all, flat_map_more}
use Rattle.std.proofs.lemmas.List.Elements.{recursion_from_All, All-push}
use Rattle.packet_entry.specs.Numbers.{longest_packet}
use Rattle.pcap_io.specs.declared.capture.Capture.{Capture}
use Rattle.pcap_io.specs.declared.capture.Frame.{Frame}
use Rattle.pcap_io.specs.declared.fault.CaptureFault.{CaptureFault}
use Rattle.pcap_io.specs.Text.{header_text, record_text, capture_text, FrameFits, IsHeld, FieldsFit}
use Rattle.pcap_io.specs.Text.{IsCapture}
use Rattle.pcap_io.specs.Reading.{read_header, read_record, BreaksOff, IsFault}
use Rattle.pcap_io.proofs.FieldValues.{IsBytes, IsBytes-drop, joined}
use Rattle.pcap_io.proofs.Header.{bare, header_takes, header_again}
use Rattle.pcap_io.proofs.Records.{IsStored, record_takes, record_again}

abbrev pub records : Bool → List Frame → List ℕ
records big frames = flat_map (record_text big) frames

-- ---- one answer on each side

abbrev done : {A : Type 0} → A → Result A CaptureFault
done x = Ok x

same_value : {A : Type 0} (r : Result A CaptureFault) (x y : A) → r ≡ Ok x → r ≡ Ok y → x ≡ y
same_value r x y p q = let e : done x ≡ done y = sym p ∙ q in cc

pub same_fault : {A : Type 0} (r : Result A CaptureFault) (x y : CaptureFault) → r ≡ Err x →
    r ≡ Err y → x ≡ y
same_fault {A} r x y p q = let e : ◌≡◌ {A = Result A CaptureFault} (Err x) (Err y) = sym p ∙ q in cc

not_both : {A : Type 0} (r : Result A CaptureFault) (x : A) (fault : CaptureFault) → r ≡ Ok x →
    r ≡ Err fault → ⊥
not_both {A} r x fault p q =
    let e : ◌≡◌ {A = Result A CaptureFault} (Ok x) (Err fault) = sym p ∙ q in cc

-- ---- a text begins with one record only

pub record BeginsWhole (big : Bool) (text : List ℕ) : Type 0 where
  pub frame : Frame
  pub rest : List ℕ
  pub stored : IsStored frame
  pub parts : text ≡ record_text big frame ++ rest

read_in_front : (big : Bool) (n place : ℕ) (text : List ℕ) (w : BeginsWhole big text) →
    read_record big n place text ≡ Ok w.frame
read_in_front big n place text w =
    ap (read_record big n place) w.parts ∙ record_again big n place w.frame w.rest w.stored

pub length-record : (big : Bool) (f : Frame) → length (record_text big f) ≡ 16 + length f.bytes
unfolding record_text
length-record true f = omega arith
length-record false f = omega arith

nothing_begins : (big : Bool) → BeginsWhole big [] → ⊥
nothing_begins big w =
    let e : 0 ≡ length (record_text big w.frame ++ w.rest) =
    ap (λ (t : List ℕ). length t) w.parts in
    absurd (omega (
      arith,
      length-append (record_text big w.frame) w.rest,
      length-record big w.frame,
    ))

-- two lists of records at the start of one text are the same, or one goes on where the other ends
two_fronts : (big : Bool) (fs gs : List Frame) (r s : List ℕ) → AllByRecursion IsStored fs →
    AllByRecursion IsStored gs → records big fs ++ r ≡ records big gs ++ s
    → ((fs ≡ gs) × (r ≡ s)) ⊎ (BeginsWhole big r ⊎ BeginsWhole big s)
two_fronts big [] [] r s p q e = inl (refl, e)
two_fronts big [] (g ∷ gs) r s p q e =
    inr (inl (record {
      frame = g;
      rest = records big gs ++ s;
      stored = q.0;
      parts = e ∙ append_assoc (record_text big g) (records big gs) s;
    }))
two_fronts big (f ∷ fs) [] r s p q e =
    inr (inr (record {
      frame = f;
      rest = records big fs ++ r;
      stored = p.0;
      parts = sym e ∙ append_assoc (record_text big f) (records big fs) r;
    }))
two_fronts big (f ∷ fs) (g ∷ gs) r s p q e =
    let left : records big (f ∷ fs) ++ r ≡ record_text big f ++ (records big fs ++ r) =
    append_assoc (record_text big f) (records big fs) r in
    let right : records big (g ∷ gs) ++ s ≡ record_text big g ++ (records big gs ++ s) =
    append_assoc (record_text big g) (records big gs) s in
    let both : record_text big f ++ (records big fs ++ r) ≡ record_text big g
    ++ (records big gs ++ s) = sym left ∙ e ∙ right in
    let first : f ≡ g =
    same_value (read_record big 0 0 (record_text big f ++ (records big fs ++ r))) f g
    (record_again big 0 0 f (records big fs ++ r) p.0)
    (ap (read_record big 0 0) both ∙ record_again big 0 0 g (records big gs ++ s) q.0) in
    let others : records big fs ++ r ≡ records big gs ++ s =
    append_cancel_left (record_text big g) (records big fs ++ r) (records big gs ++ s)
    (ap (λ (h : Frame). record_text big h ++ (records big fs ++ r)) (sym first) ∙ both) in
    elim (two_fronts big fs gs r s p.1 q.1 others) [
      | inl same ↦ inl (
        ap (λ (h : Frame). h ∷ fs) first
            ∙ ap (λ (hs : List Frame). g ∷ hs) same.0,
        same.1,
      )
      | inr longer ↦ inr longer
    ]

-- ---- a text begins with one whole capture only

stored_frames : (c : Capture) → IsHeld c → FieldsFit c → AllByRecursion IsStored c.frames
stored_frames c held fits =
    recursion_from_All IsStored c.frames
    (λ k d lt. record { fits = fits.frames k d lt; short = held.lengths k d lt })

header_in_front : (x rest : List ℕ) (c : Capture) → IsCapture x c →
    read_header (x ++ rest) ≡ Ok (bare c)
header_in_front x rest c w =
    let regrouped : x ++ rest ≡ header_text c ++ (records c.big c.frames ++ rest) =
    ap (λ (t : List ℕ). t ++ rest) w.spelled
    ∙ append_assoc (header_text c) (records c.big c.frames) rest in
    ap read_header regrouped ∙ header_again c (records c.big c.frames ++ rest) w.fits w.held.link

header_of_bare : (c : Capture) → header_text (bare c) ≡ header_text c
unfolding header_text
header_of_bare c = refl

header_len : (big : Bool) (c : Capture) → length (header_text (record c { big = big })) ≡ 24
unfolding header_text
header_len true c = refl
header_len false c = refl

pub record SameFronts (a b : Capture) (r s : List ℕ) : Type 0 where
  pub captures : a ≡ b
  pub rests : r ≡ s

rejoined : (a b : Capture) → bare a ≡ bare b → a.frames ≡ b.frames → a ≡ b
rejoined a b p q =
    ap (λ (c : Capture). record c { frames = a.frames }) p
    ∙ ap (λ (fs : List Frame). record (bare b) { frames = fs }) q

two_captures : (x y r s : List ℕ) (a b : Capture) → IsCapture x a → IsCapture y b →
    x ++ r ≡ y ++ s → SameFronts a b r s ⊎ (BeginsWhole b.big r ⊎ BeginsWhole b.big s)
two_captures x y r s a b v w e =
    let same : bare a ≡ bare b =
    same_value (read_header (x ++ r)) (bare a) (bare b) (header_in_front x r a v)
    (ap read_header e ∙ header_in_front y s b w) in
    let big : a.big ≡ b.big = ap (λ (c : Capture). c.big) same in
    let header : header_text a ≡ header_text b =
    sym (header_of_bare a) ∙ ap header_text same ∙ header_of_bare b in
    let left : x ++ r ≡ header_text a ++ (records a.big a.frames ++ r) =
    ap (λ (t : List ℕ). t ++ r) v.spelled
    ∙ append_assoc (header_text a) (records a.big a.frames) r in
    let right : y ++ s ≡ header_text b ++ (records b.big b.frames ++ s) =
    ap (λ (t : List ℕ). t ++ s) w.spelled
    ∙ append_assoc (header_text b) (records b.big b.frames) s in
    let turned : header_text a ++ (records a.big a.frames ++ r) ≡ header_text b
    ++ (records b.big a.frames ++ r) =
    ap (λ (h : List ℕ). h ++ (records a.big a.frames ++ r)) header
    ∙ ap (λ (t : Bool). header_text b ++ (records t a.frames ++ r)) big in
    let behind : records b.big a.frames ++ r ≡ records b.big b.frames ++ s =
    append_cancel_left (header_text b) (records b.big a.frames ++ r)
    (records b.big b.frames ++ s) (sym turned ∙ sym left ∙ e ∙ right) in
    elim (two_fronts b.big a.frames b.frames r s (stored_frames a v.held v.fits)
    (stored_frames b w.held w.fits) behind) [
      | inl found ↦ inl (record { captures = rejoined a b same found.0; rests = found.1 })
      | inr longer ↦ inr longer
    ]

pub one_capture : (text : List ℕ) (a b : Capture) → IsCapture text a → IsCapture text b → a ≡ b
one_capture text a b v w =
    elim (two_captures text text [] [] a b v w refl) [
      | inl same ↦ same.captures
      | inr (inl longer) ↦ absurd (nothing_begins b.big longer)
      | inr (inr longer) ↦ absurd (nothing_begins b.big longer)
    ]

-- ---- a capture and a fault, or two faults

not_whole : (big : Bool) (n place : ℕ) (rest : List ℕ) (fault : CaptureFault) →
    BeginsWhole big rest → read_record big n place rest ≡ Err fault → ⊥
not_whole big n place rest fault w e =
    not_both (read_record big n place rest) w.frame fault (read_in_front big n place rest w) e

header_of_front : (x rest text : List ℕ) (c : Capture) (fault : CaptureFault) → text ≡ x ++ rest →
    IsCapture x c → read_header text ≡ Err fault → ⊥
header_of_front x rest text c fault parts w e =
    not_both (read_header text) (bare c) fault (ap read_header parts ∙ header_in_front x rest c w) e

pub never_both : (text : List ℕ) (c : Capture) (fault : CaptureFault) → IsCapture text c →
    IsFault text fault → ⊥
never_both text c fault w (inl e) = header_of_front text [] text c fault (sym (append-nil text)) w e
never_both text c fault w (inr b) =
    elim (two_captures text b.before [] b.rest c b.capture w b.whole (append-nil text ∙ b.parts)) [
      | inl same ↦ absurd (omega (arith, b.more, ap (λ (t : List ℕ). length t) same.rests))
      | inr (inl longer) ↦ nothing_begins b.capture.big longer
      | inr (inr longer) ↦ not_whole b.capture.big (length b.capture.frames + 1) (length b.before)
          b.rest fault longer b.broken
    ]

same_break : (text : List ℕ) (f g : CaptureFault) (a : BreaksOff text f) (b : BreaksOff text g) →
    SameFronts a.capture b.capture a.rest b.rest → f ≡ g
same_break text f g a b same =
    let before : a.before ≡ b.before =
    a.whole.spelled ∙ ap capture_text same.captures ∙ sym b.whole.spelled in
    let moved : read_record a.capture.big (length a.capture.frames + 1) (length a.before) a.rest
    ≡ read_record b.capture.big (length b.capture.frames + 1) (length b.before) b.rest =
    ap (λ (c : Capture). read_record c.big (length c.frames + 1) (length a.before) a.rest)
    same.captures
    ∙ ap (λ (t : List ℕ). read_record b.capture.big (length b.capture.frames + 1) (length t) a.rest)
    before
    ∙ ap (read_record b.capture.big (length b.capture.frames + 1) (length b.before)) same.rests in
    same_fault
    (read_record b.capture.big (length b.capture.frames + 1) (length b.before) b.rest) f g
    (sym moved ∙ a.broken) b.broken

other_break : (text : List ℕ) (f g : CaptureFault) (a : BreaksOff text f) (b : BreaksOff text g) →
    BeginsWhole b.capture.big a.rest → ⊥
other_break text f g a b longer =
    let same : bare a.capture ≡ bare b.capture =
    same_value (read_header text) (bare a.capture) (bare b.capture)
    (ap read_header a.parts ∙ header_in_front a.before a.rest a.capture a.whole)
    (ap read_header b.parts ∙ header_in_front b.before b.rest b.capture b.whole) in
    let big : b.capture.big ≡ a.capture.big = sym (ap (λ (c : Capture). c.big) same) in
    not_whole a.capture.big (length a.capture.frames + 1) (length a.before) a.rest f
    (subst (λ (t : Bool). BeginsWhole t a.rest) big longer) a.broken

pub one_fault : (text : List ℕ) (f g : CaptureFault) → IsFault text f → IsFault text g → f ≡ g
one_fault text f g (inl p) (inl q) = same_fault (read_header text) f g p q
one_fault text f g (inl p) (inr b) =
    absurd (header_of_front b.before b.rest text b.capture f b.parts b.whole p)
one_fault text f g (inr a) (inl q) =
    absurd (header_of_front a.before a.rest text a.capture g a.parts a.whole q)
one_fault text f g (inr a) (inr b) =
    elim (two_captures a.before b.before a.rest b.rest a.capture b.capture a.whole b.whole
    (sym a.parts ∙ b.parts)) [
      | inl same ↦ same_break text f g a b same
      | inr (inl longer) ↦ absurd (other_break text f g a b longer)
      | inr (inr longer) ↦ absurd (not_whole b.capture.big (length b.capture.frames + 1)
          (length b.before) b.rest g longer b.broken)
    ]

-- ---- one record further

-- a capture with one more frame
abbrev pub with_frame : Capture → Frame → Capture
with_frame c f = record c { frames = c.frames ++ f ∷ [] }

header_with_frame : (c : Capture) (f : Frame) → header_text (with_frame c f) ≡ header_text c
unfolding header_text
header_with_frame c f = refl

pub record Goes (text : List ℕ) (at : ℕ) (c : Capture) (f : Frame) : Type 0 where
  pub within : at + (16 + length f.bytes) ≤ length text
  pub whole : IsCapture (take (at + (16 + length f.bytes)) text) (with_frame c f)

pub next : (text : List ℕ) (at n place : ℕ) (c : Capture) (f : Frame) → IsBytes text →
    at ≤ length text → IsCapture (take at text) c →
    read_record c.big n place (drop at text) ≡ Ok f →
    Goes text at c f
next text at n place c f fits le w e =
    let t = record_takes c.big n place (drop at text) f (IsBytes-drop at text fits) e in
    let size = 16 + length f.bytes in
    let back : at + size - at ≡ size = omega arith in
    let longer : at ≤ at + size = omega arith in
    let spelled : take (at + size) text ≡ capture_text (with_frame c f) =
    sym (joined text at (at + size) longer)
    ∙ ap (λ (m : ℕ). take at text ++ take m (drop at text)) back
    ∙ ap (λ (back : List ℕ). take at text ++ back) (sym t.spelled)
    ∙ ap (λ (front : List ℕ). front ++ record_text c.big f) w.spelled
    ∙ flat_map_more (record_text c.big) (header_text c) c.frames f
    ∙ ap (λ (h : List ℕ). h ++ records c.big (c.frames ++ f ∷ [])) (sym (header_with_frame c f)) in
    record {
      within = omega (arith, t.long, length-drop at text);
      whole = record {
        held = record {
          link = w.held.link;
          lengths =
              All-push (λ (g : Frame). length g.bytes ≤ longest_packet) c.frames f w.held.lengths
              t.stored.short;
        };
        fits = record {
          zone = w.fits.zone;
          sigfigs = w.fits.sigfigs;
          snap = w.fits.snap;
          link = w.fits.link;
          frames = All-push FrameFits c.frames f w.fits.frames
              t.stored.fits;
        };
        spelled = spelled;
      };
    }

-- what comes where the record at a place is wrong
pub breaks : (text : List ℕ) (at : ℕ) (c : Capture) (fault : CaptureFault) → at < length text →
    IsCapture (take at text) c → read_record c.big (length c.frames + 1) at (drop at text)
    ≡ Err fault → BreaksOff text fault
breaks text at c fault lt w e = record {
  before = take at text;
  capture = c;
  whole = w;
  rest = drop at text;
  parts = sym (take-append-drop at text);
  more = omega (arith, length-drop at text);
  broken =
      ap (λ (n : ℕ). read_record c.big (length c.frames + 1) n (drop at text))
      (length-take-le at text (omega arith)) ∙ e;
}

-- ---- how many frames there can be

length-records : (big : Bool) (fs : List Frame) → 16 * length fs ≤ length (records big fs)
length-records big [] = omega arith
length-records big (f ∷ fs) =
    omega (
      arith,
      length-records big fs,
      length-append (record_text big f) (records big fs),
      length-record big f,
    )

pub length-header : (c : Capture) → length (header_text c) ≡ 24
length-header c = header_len c.big c

pub frames_below : (text : List ℕ) (c : Capture) → IsCapture text c →
    24 + 16 * length c.frames ≤ length text
frames_below text c w =
    omega (
      arith,
      ap (λ (t : List ℕ). length t) w.spelled,
      length-append (header_text c) (records c.big c.frames),
      length-header c,
      length-records c.big c.frames,
    )

-- ---- a text has a value or a fault

abbrev pub Answer : List ℕ → Type 0
Answer text = ((c : Capture) × IsCapture text c) ⊎ ((fault : CaptureFault) × IsFault text fault)

-- what one look at the record at a place leads to
abbrev Look : List ℕ → ℕ → Capture → Type 0
Look text at c = Answer text ⊎ ((f : Frame) × Goes text at c f)

looked : (text : List ℕ) (at : ℕ) (c : Capture) (r : Result Frame CaptureFault) → IsBytes text →
    at < length text → IsCapture (take at text) c →
    read_record c.big (length c.frames + 1) at (drop at text) ≡ r → Look text at c
looked text at c (Ok f) fits lt w e =
    inr (f, next text at (length c.frames + 1) at c f fits (omega arith) w e)
looked text at c (Err fault) fits lt w e = inl (inr (fault, inr (breaks text at c fault lt w e)))

at_end : (text : List ℕ) (at : ℕ) (c : Capture) → length text ≤ at → IsCapture (take at text) c →
    Answer text
at_end text at c le w = inl (c, subst (λ (t : List ℕ). IsCapture t c) (take_all at text le) w)

scanned : (fuel : ℕ) (text : List ℕ) (at : ℕ) (c : Capture) → IsBytes text →
    length text ≤ at + fuel → IsCapture (take at text) c → Answer text
scanned zero text at c fits le w = at_end text at c (omega arith) w
scanned (suc fuel) text at c fits le w =
    elim (cases_lt at (length text)) [
      | inr past ↦ at_end text at c past w
      | inl lt ↦ elim (looked text at c (read_record c.big (length c.frames + 1) at (drop at text))
          fits lt w refl) [
            | inl answer ↦ answer
            | inr (f, goes) ↦ scanned fuel text (at + (16 + length f.bytes)) (with_frame c f) fits
                (omega arith) goes.whole
          ]
    ]

answered : (text : List ℕ) (r : Result Capture CaptureFault) → IsBytes text → read_header text ≡ r →
    Answer text
answered text (Ok c) fits e =
    scanned (length text) text 24 c fits (omega arith) (header_takes text c fits e).whole
answered text (Err fault) fits e = inr (fault, inl e)

pub value_or_fault : (text : List ℕ) → IsBytes text → Answer text
value_or_fault text fits = answered text (read_header text) fits refl
