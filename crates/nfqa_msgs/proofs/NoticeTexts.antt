-- What a text tells exactly is what a notice of this text tells.
use Rattle.std.proofs.Common.{◌≡◌, ◌<◌, ◌^◌, ◌∙◌, ℕ, List, length, Option, Some, None, Bool, true}
use Rattle.std.proofs.Common.{refl, ap}
use Rattle.std.specs.Prelude.{◌&&◌, IfSome, if◌then◌else◌}
use Rattle.std.specs.Str.{bytes_eq}
use Rattle.std.proofs.lemmas.Bool.{and_from, and_parts, lt-ltb, ltb-true, le-leb, leb-true}
use Rattle.std.proofs.lemmas.Bool.{eq-eqb, eqb-true, false_from_ne_true}
use Rattle.std.proofs.lemmas.Slice.Eq.{bytes_eq-Decides}
use Rattle.packet_entry.specs.Numbers.{longest_payload}
use Rattle.nfqa_msgs.specs.NoticeWriting.{Told, FitsTold, notice_text}
use Rattle.nfqa_msgs.specs.NoticeReading.{told_by}
use Rattle.nfqa_msgs.specs.NoticeMeaning.{IsNoNotice}
use Rattle.nfqa_msgs.specs.NoticeTexts.{fits, is_source, is_cut, where_it_is, told_exactly}

-- ---- the test of a notice's numbers holds exactly where they fit

source_tested : (n : ℕ) → ((s : List ℕ) → length s ≡ n → is_source (Some s) ≡ true) →
    (source : Option (List ℕ)) → IfSome source (λ s. length s ≡ n) → is_source source ≡ true
source_tested n each None is = refl
source_tested n each (Some s) is = each s is

cut_tested : (shown : ℕ) (cut : Option ℕ) → IfSome cut (λ n. (shown < n) × (n < 2 ^ 32)) →
    is_cut shown cut ≡ true
cut_tested shown None is = refl
cut_tested shown (Some n) is = and_from _ _ (lt-ltb shown n is.0) (lt-ltb n (2 ^ 32) is.1)

tested : (told : Told) → FitsTold told → fits told ≡ true
tested told f =
    and_from _ _ (lt-ltb told.queue (2 ^ 16) f.queue_fits)
    (and_from _ _ (lt-ltb told.id (2 ^ 32) f.id_fits)
    (and_from _ _ f.protocol_fits
    (and_from _ _ (lt-ltb told.mark (2 ^ 32) f.mark_fits)
    (and_from _ _ (lt-ltb told.priority (2 ^ 32) f.priority_fits)
    (and_from _ _ (source_tested _ (λ s. eq-eqb (length s) _) told.source f.source_fits)
    (and_from _ _ (lt-ltb told.seconds (2 ^ 32) f.seconds_fit)
    (and_from _ _ (lt-ltb told.micros (2 ^ 32) f.micros_fit)
    (and_from _ _ (cut_tested (length told.payload) told.cut_from f.cut_fits)
    (le-leb (length told.payload) longest_payload f.payload_fits)))))))))

source_fits : (n : ℕ) → ((s : List ℕ) → is_source (Some s) ≡ true → length s ≡ n) →
    (source : Option (List ℕ)) → is_source source ≡ true → IfSome source (λ s. length s ≡ n)
source_fits n each None is = tt
source_fits n each (Some s) is = each s is

cut_fits : (shown : ℕ) (cut : Option ℕ) → is_cut shown cut ≡ true →
    IfSome cut (λ n. (shown < n) × (n < 2 ^ 32))
cut_fits shown None is = tt
cut_fits shown (Some n) is =
    let both = and_parts _ _ is in (ltb-true shown n both.0, ltb-true n (2 ^ 32) both.1)

all_fit : (told : Told) → fits told ≡ true → FitsTold told
all_fit told is =
    let a = and_parts _ _ is in
    let b = and_parts _ _ a.1 in
    let d = and_parts _ _ b.1 in
    let e = and_parts _ _ d.1 in
    let f = and_parts _ _ e.1 in
    let g = and_parts _ _ f.1 in
    let h = and_parts _ _ g.1 in
    let i = and_parts _ _ h.1 in
    let j = and_parts _ _ i.1 in
    record {
      queue_fits = ltb-true told.queue (2 ^ 16) a.0;
      id_fits = ltb-true told.id (2 ^ 32) b.0;
      protocol_fits = d.0;
      mark_fits = ltb-true told.mark (2 ^ 32) e.0;
      priority_fits = ltb-true told.priority (2 ^ 32) f.0;
      source_fits = source_fits _ (λ s. eqb-true (length s) _) told.source g.0;
      seconds_fit = ltb-true told.seconds (2 ^ 32) h.0;
      micros_fit = ltb-true told.micros (2 ^ 32) i.0;
      cut_fits = cut_fits (length told.payload) told.cut_from j.0;
      payload_fits = leb-true (length told.payload) longest_payload j.1;
    }

-- ---- what the exact text tells

abbrev when : Told → Bool → Option Told
when told b = if b then Some told else None

is_told : (bytes : List ℕ) (told : Told) → FitsTold told → bytes ≡ notice_text told →
    where_it_is bytes (Some told) ≡ Some told
is_told bytes told f is =
    ap (when told)
    (and_from (fits told) (bytes_eq bytes (notice_text told)) (tested told f)
    ((bytes_eq-Decides bytes (notice_text told)).1 is))

is_not_told : (bytes : List ℕ) (o : Option Told) → IsNoNotice bytes → where_it_is bytes o ≡ None
is_not_told bytes None other = refl
is_not_told bytes (Some told) other =
    ap (when told) (false_from_ne_true (fits told && bytes_eq bytes (notice_text told))
    (λ both. let parts = and_parts (fits told) (bytes_eq bytes (notice_text told)) both in
    other told (all_fit told parts.0) ((bytes_eq-Decides bytes (notice_text told)).0 parts.1)))

pub exactly_told : (told : Told) → FitsTold told → told_by (notice_text told) ≡ Some told →
    told_exactly (notice_text told) ≡ Some told
exactly_told told f back =
    ap (where_it_is (notice_text told)) back ∙ is_told (notice_text told) told f refl

pub nothing_told : (bytes : List ℕ) → IsNoNotice bytes → told_exactly bytes ≡ None
nothing_told bytes other = is_not_told bytes (told_by bytes) other
