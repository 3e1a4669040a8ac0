-- The header that is read is the front of the text, and a header that is spelled is read again.
use Rattle.std.proofs.Common.{◌≡◌, ℕ, ◌+◌, ◌≤◌, Bool, true, false, cond, not, eqb, ltb}
use Rattle.std.proofs.Common.{List, [], ◌++◌, length, take, Result, Ok, Err, refl, sym, ap, subst}
use Rattle.std.proofs.Common.{◌∙◌, append_assoc, arith, lit≤}
use Rattle.std.specs.Int.{w16, w32}
use Rattle.std.proofs.lemmas.Bool.{eqb-true, ltb-false, le-ltb, not-false}
use Rattle.std.proofs.lemmas.List.{length-take, append-nil}
use Rattle.std.proofs.lemmas.List.Elements.{All-nil}
use Rattle.std.proofs.lemmas.Nat.{be_bytes_4}
use Rattle.packet_entry.specs.Numbers.{longest_packet}
use Rattle.pcap_io.specs.declared.capture.Capture.{Capture}
use Rattle.pcap_io.specs.declared.capture.Frame.{Frame}
use Rattle.pcap_io.specs.declared.fault.CaptureFault.{CaptureFault}
use Rattle.pcap_io.specs.declared.fault.CaptureFault.TheVariants.{Magic, Pcapng, Version, LinkType}
use Rattle.pcap_io.specs.declared.fault.CaptureFault.TheVariants.{Cut}
use Rattle.pcap_io.specs.Numbers.{pcapng_block, microsecond_magic, nanosecond_magic}
use Rattle.pcap_io.specs.Numbers.{microsecond_magic_swapped, nanosecond_magic_swapped}
use Rattle.pcap_io.specs.Text.{field, magic_of, header_text, is_link_type, FrameFits, FieldsFit}
use Rattle.pcap_io.specs.Text.{IsCapture}
use Rattle.pcap_io.specs.Reading.{◌>>=◌, number_at, resolution_of, read_magic, fields_at}
use Rattle.pcap_io.specs.Reading.{read_header}
use Rattle.pcap_io.proofs.FieldValues.{IsBytes, IsBytes-take, behind16, behind32}
use Rattle.pcap_io.proofs.FieldValues.{at_below, guarded, bound, same_numbers, ok_is}
use Rattle.pcap_io.proofs.FieldValues.{four, four_is, number_again, two, two_is, short_again}

-- what holds of each resolution whose test may succeed holds of the one that was chosen
picked : (P : Bool × Bool → Type 0) (a b c d e : Bool) (m : Bool × Bool) →
    cond a (Err Pcapng) (cond b (Ok (true, false))
    (cond c (Ok (true, true)) (cond d (Ok (false, false)) (cond e (Ok (false, true)) (Err Magic)))))
    ≡ Ok m
    → (b ≡ true → P (true, false)) → (c ≡ true → P (true, true)) → (d ≡ true → P (false, false)) →
    (e ≡ true → P (false, true)) → P m
picked P true b c d e m h pb pc pd pe = absurd cc
picked P false true c d e m h pb pc pd pe = subst P (ok_is (true, false) m h) (pb refl)
picked P false false true d e m h pb pc pd pe = subst P (ok_is (true, true) m h) (pc refl)
picked P false false false true e m h pb pc pd pe = subst P (ok_is (false, false) m h) (pd refl)
picked P false false false false true m h pb pc pd pe = subst P (ok_is (false, true) m h) (pe refl)
picked P false false false false false m h pb pc pd pe = absurd cc

pub magic_takes : (text : List ℕ) (m : Bool × Bool) → IsBytes text → read_magic text ≡ Ok m →
    field m.0 w32 (magic_of m.1) ≡ take 4 text
magic_takes text m fits e =
    let g = guarded (ltb (length text) 4) Magic (resolution_of (number_at true w32 0 text)) m e in
    let long : 4 ≤ length text = ltb-false (length text) 4 g.0 in
    let front = take 4 text in
    let len : length (take 4 text) ≡ 4 = omega (arith, length-take 4 text) in
    let bytes : IsBytes (take 4 text) = IsBytes-take 4 text fits in
    let n : ℕ = number_at true w32 0 text in
    picked (λ (r : Bool × Bool). field r.0 w32 (magic_of r.1) ≡ take 4 text) (eqb n pcapng_block)
    (eqb n microsecond_magic) (eqb n nanosecond_magic) (eqb n microsecond_magic_swapped)
    (eqb n nanosecond_magic_swapped) m g.1
    (λ t. be_bytes_4 (take 4 text) microsecond_magic len bytes
    (sym (eqb-true n microsecond_magic t)))
    (λ t. be_bytes_4 (take 4 text) nanosecond_magic len bytes (sym (eqb-true n nanosecond_magic t)))
    (λ t. be_bytes_4 (take 4 text) microsecond_magic_swapped len bytes
    (sym (eqb-true n microsecond_magic_swapped t)))
    (λ t. be_bytes_4 (take 4 text) nanosecond_magic_swapped len bytes
    (sym (eqb-true n nanosecond_magic_swapped t)))

-- what a header that was read says of the text
pub record Takes (text : List ℕ) (c : Capture) : Type 0 where
  pub long : 24 ≤ length text
  pub whole : IsCapture (take 24 text) c
  pub empty : c.frames ≡ []

fields_take : (big nanos : Bool) (text : List ℕ) (c : Capture) → IsBytes text →
    field big w32 (magic_of nanos) ≡ take 4 text → fields_at big nanos text ≡ Ok c → Takes text c
unfolding fields_at header_text
fields_take big nanos text c fits magic e =
    let made : Capture = record {
      big = big;
      nanos = nanos;
      zone = number_at big w32 8 text;
      sigfigs = number_at big w32 12 text;
      snap = number_at big w32 16 text;
      link = number_at big w32 20 text;
      frames = [];
    } in
    let g = guarded (ltb (length text) 24) (Cut 0 0) _ c e in
    let h = guarded _ Version _ c g.1 in
    let k = guarded (not (is_link_type (number_at big w32 20 text)))
    (LinkType (number_at big w32 20 text)) (Ok made) c h.1 in
    let long : 24 ≤ length text = ltb-false (length text) 24 g.0 in
    let version = same_numbers (number_at big w16 4 text) (number_at big w16 6 text) 2 4 h.0 in
    let major : take 4 text ++ field big w16 2 ≡ take 6 text =
    ap (λ (n : ℕ). take 4 text ++ field big w16 n) (sym version.0)
    ∙ behind16 big text 4 fits (omega arith) in
    let minor : take 6 text ++ field big w16 4 ≡ take 8 text =
    ap (λ (n : ℕ). take 6 text ++ field big w16 n) (sym version.1)
    ∙ behind16 big text 6 fits (omega arith) in
    let next : (at : ℕ) → at + 4 ≤ 24 →
    take at text ++ field big w32 (number_at big w32 at text) ≡ take (at + 4) text =
    λ at within. behind32 big text at fits (omega arith) in
    let spelled : header_text made ≡ take 24 text =
    rw (
      magic,
      major,
      minor,
      next 8 (lit≤ tt),
      next 12 (lit≤ tt),
      next 16 (lit≤ tt),
      next 20 (lit≤ tt),
    ) refl in
    subst (λ (d : Capture). Takes text d) (ok_is made c k.1) (record {
      long = long;
      empty = refl;
      whole = record {
        held = record {
          link = not-false _ k.0;
          lengths = All-nil (λ (f : Frame). length f.bytes ≤ longest_packet);
        };
        fits = record {
          zone = at_below big text 8 fits;
          sigfigs = at_below big text 12 fits;
          snap = at_below big text 16 fits;
          link = at_below big text 20 fits;
          frames = All-nil FrameFits;
        };
        spelled = sym (append-nil (header_text made) ∙ spelled);
      };
    })

pub header_takes : (text : List ℕ) (c : Capture) → IsBytes text → read_header text ≡ Ok c →
    Takes text c
unfolding read_header
header_takes text c fits e =
    let b = bound (read_magic text) (λ m. fields_at m.0 m.1 text) c e in
    fields_take b.0.0 b.0.1 text c fits (magic_takes text b.0 fits b.1) b.2

-- ---- what is spelled is read again

not_short : (big : Bool) (n : ℕ) (rest : List ℕ) → ltb (length (field big w32 n ++ rest)) 4 ≡ false
not_short big n rest = rw (four_is big n) (le-ltb _ _ (omega arith))

magic_again : (big nanos : Bool) (rest : List ℕ) →
    read_magic (field big w32 (magic_of nanos) ++ rest) ≡ Ok (big, nanos)
magic_again true true rest = rw (not_short true (magic_of true) rest) refl
magic_again true false rest = rw (not_short true (magic_of false) rest) refl
magic_again false true rest = rw (not_short false (magic_of true) rest) refl
magic_again false false rest = rw (not_short false (magic_of false) rest) refl

-- a capture's header, without its frames
abbrev pub bare : Capture → Capture
bare c = record c { frames = [] }

fields_again : (c : Capture) (rest : List ℕ) → FieldsFit c → is_link_type c.link ≡ true →
    fields_at c.big c.nanos (header_text c ++ rest) ≡ Ok (bare c)
unfolding fields_at header_text
fields_again c rest fits known =
    let numbers =
    ((four c.big c.zone ++ four c.big c.sigfigs) ++ four c.big c.snap) ++ four c.big c.link ++ rest
    in
    let text = four c.big (magic_of c.nanos) ++ two c.big 2 ++ two c.big 4 ++ numbers in
    let long : ltb (length text) 24 ≡ false = le-ltb _ _ (omega arith) in
    rw (
      four_is c.big (magic_of c.nanos),
      two_is c.big 2,
      two_is c.big 4,
      four_is c.big c.zone,
      four_is c.big c.sigfigs,
      four_is c.big c.snap,
      four_is c.big c.link,
      long,
      short_again c.big 2 (omega arith),
      short_again c.big 4 (omega arith),
      number_again c.big c.link fits.link,
      known,
      number_again c.big c.zone fits.zone,
      number_again c.big c.sigfigs fits.sigfigs,
      number_again c.big c.snap fits.snap,
    ) refl

pub header_again : (c : Capture) (rest : List ℕ) → FieldsFit c → is_link_type c.link ≡ true →
    read_header (header_text c ++ rest) ≡ Ok (bare c)
unfolding read_header header_text
header_again c rest fits known =
    let behind =
    field c.big w16 2
    ++ (field c.big w16 4 ++ (field c.big w32 c.zone
    ++ (field c.big w32 c.sigfigs ++ (field c.big w32 c.snap
    ++ (field c.big w32 c.link ++ rest))))) in
    let text = header_text c ++ rest in
    let regrouped : text ≡ field c.big w32 (magic_of c.nanos) ++ behind = simp append_assoc in
    let magic : read_magic text ≡ Ok (c.big, c.nanos) =
    ap read_magic regrouped ∙ magic_again c.big c.nanos behind in
    ap (λ (m : Result (Bool × Bool) CaptureFault). m >>= λ r. fields_at r.0 r.1 text) magic
    ∙ fields_again c rest fits known
