-- The last event of each packet, event by event.
use Rattle.std.proofs.Common.{◌≡◌, ◌≢◌, ℕ, zero, suc, ◌+◌, ◌-◌, ◌<◌, ◌≤◌, List, [], ◌∷◌, ◌++◌}
use Rattle.std.proofs.Common.{length, Option, Some, None, Bool, true, false, cond, refl, sym, ap}
use Rattle.std.proofs.Common.{ap₂, arith, append_assoc, length-append, subst, ◌∙◌}
use Rattle.std.proofs.lemmas.List.{append-nil}
use Rattle.std.specs.Prelude.{map, nat_le, replicate, ◌==◌, slice_get, slice_index_or, slice_set}
use Rattle.std.specs.Prelude.{◌&&◌, ◌||◌}
use Rattle.std.specs.Ordering.{nat_cmp}
use Rattle.std.specs.Cmp.{unsigned_ties}
use Rattle.std.specs.BTreeMap.{is_at}
use Rattle.std.specs.BTreeSet.{BTreeSet, contains}
use Rattle.std.proofs.lemmas.Bool.{eq-eqb, le-leb, lt-leb, ne_eqb}
use Rattle.std.proofs.lemmas.Option.{slice_get_read}
use Rattle.fate_ledger.specs.declared.happening.Happening.{Happening}
use Rattle.fate_ledger.specs.declared.fate.FateLine.{FateLine}
use Rattle.pcap_io.specs.declared.capture.Frame.{Frame}
use Rattle.histories.specs.declared.histories.Lost.{Lost}
use Rattle.fate_ledger.specs.Fates.{last_of, later_of, is_later, fate_line, fate_unless, is_lost}
use Rattle.fate_ledger.specs.Fates.{fates_from}
use Rattle.fate_ledger.specs.Following.{AsMany, bare_line, Kept, lasts, lost_line, noted, noted_at}
use Rattle.fate_ledger.specs.Following.{noted_all, payload_of, told_at, told_line, untold_line}
use Rattle.fate_ledger.specs.Following.{visit_of, with_first, with_payload, with_payloads}

-- the last event, after one more
last_on : (number : ℕ) (hs : List Happening) (h : Happening) (kept : Option Happening) →
    last_of number (hs ++ h ∷ []) kept ≡ later_of number (last_of number hs kept) h
last_on number [] h kept = refl
last_on number (g ∷ hs) h kept = last_on number hs h (later_of number kept g)

-- another packet's event changes nothing
other_stays : (number : ℕ) (hs : List Happening) (h : Happening) → h.card.number ≢ number →
    last_of number (hs ++ h ∷ []) None ≡ last_of number hs None
other_stays number hs h other =
    last_on number hs h None
    ∙ ap (λ b. cond (b && is_later (last_of number hs None) h) (Some h) (last_of number hs None))
    (ne_eqb h.card.number number other)

-- its own is the last one where it is later
own_counts : (number : ℕ) (hs : List Happening) (h : Happening) → h.card.number ≡ number →
    last_of number (hs ++ h ∷ []) None
    ≡ cond (is_later (last_of number hs None) h) (Some h) (last_of number hs None)
own_counts number hs h own =
    last_on number hs h None
    ∙ ap (λ b. cond (b && is_later (last_of number hs None) h) (Some h) (last_of number hs None))
    (eq-eqb h.card.number number own)

-- what is kept of a frame whose packet has this last event, before others
abbrev kept_on : ℕ → Frame → Option Happening → Kept → Kept
kept_on k f last others =
    with_first (visit_of last) (payload_of f last) (bare_line k last) others

others_stay : (hs : List Happening) (h : Happening) (k : ℕ) (fs : List Frame) →
    ((j : ℕ) → j < length fs → h.card.number ≢ k + j) → lasts (hs ++ h ∷ []) k fs ≡ lasts hs k fs
others_stay hs h k [] others = refl
others_stay hs h k (f ∷ fs) others =
    ap (λ last. kept_on k f last (lasts (hs ++ h ∷ []) (k + 1) fs))
    (other_stays k hs h (λ same. others 0 (omega arith) (omega (arith, same))))
    ∙ ap (kept_on k f (last_of k hs None)) (others_stay hs h (k + 1) fs
    (λ j below same. others (suc j) (omega (arith, below)) (omega (arith, same))))

-- what is noted behind the first stands behind it
noted_behind : (i visit : ℕ) (payload : List ℕ) (at : Option ℕ) (h : Happening) (line : FateLine)
    (kept : Kept) → noted_at (suc i) at h (with_first visit payload line kept)
    ≡ with_first visit payload line (noted_at i at h kept)
noted_behind i visit payload None h line kept = refl
noted_behind i visit payload (Some v) h line kept = either (nat_le v h.card.visit)
  where
    either : (b : Bool) → cond b (record {
      visits = visit ∷ slice_set kept.visits i h.card.visit;
      payloads = payload ∷ slice_set kept.payloads i h.card.bytes;
      lines = line ∷ told_at i h kept.lines;
    }) (with_first visit payload line kept) ≡ with_first visit payload line (cond b (record {
      visits = slice_set kept.visits i h.card.visit;
      payloads = slice_set kept.payloads i h.card.bytes;
      lines = told_at i h kept.lines;
    }) kept)
    either true = refl
    either false = refl

-- what is noted of the first packet
noted_first : (h : Happening) (k : ℕ) (f : Frame) (others : Kept) (last : Option Happening) →
    noted_at 0 (Some (visit_of last)) h (kept_on k f last others)
    ≡ kept_on k f (cond (is_later last h) (Some h) last) others
noted_first h k f others None =
    ap (λ b. cond b (kept_on k f (Some h) others) (kept_on k f None others))
    (le-leb 0 h.card.visit (omega arith))
noted_first h k f others (Some g) = either (nat_le g.card.visit h.card.visit)
  where
    either : (b : Bool) → cond b (kept_on k f (Some h) others) (kept_on k f (Some g) others)
        ≡ kept_on k f (cond b (Some h) (Some g)) others
    either true = refl
    either false = refl

-- an event is noted at its packet's place, where there is one
noted_there : (hs : List Happening) (h : Happening) (i k : ℕ) (fs : List Frame) →
    h.card.number ≡ k + i →
    noted_at i (slice_get (lasts hs k fs).visits i) h (lasts hs k fs)
    ≡ lasts (hs ++ h ∷ []) k fs
noted_there hs h i k [] own = refl
noted_there hs h zero k (f ∷ fs) own =
    let here : h.card.number ≡ k = omega (arith, own) in
    noted_first h k f (lasts hs (k + 1) fs) (last_of k hs None)
    ∙ ap (λ last. kept_on k f last (lasts hs (k + 1) fs)) (sym (own_counts k hs h here))
    ∙ ap (kept_on k f (last_of k (hs ++ h ∷ []) None))
    (sym (others_stay hs h (k + 1) fs (λ j below same. omega (arith, own, same))))
noted_there hs h (suc i) k (f ∷ fs) own =
    let last = last_of k hs None in
    noted_behind i (visit_of last) (payload_of f last)
    (slice_get (lasts hs (k + 1) fs).visits i) h (bare_line k last) (lasts hs (k + 1) fs)
    ∙ ap (kept_on k f last) (noted_there hs h i (k + 1) fs (omega (arith, own)))
    ∙ ap (λ l. kept_on k f l (lasts (hs ++ h ∷ []) (k + 1) fs))
    (sym (other_stays k hs h (λ same. omega (arith, own, same))))

number_noted : (hs : List Happening) (h : Happening) (fs : List Frame) (number : ℕ) →
    h.card.number ≡ number → cond (number == 0) (lasts hs 1 fs)
    (noted_at (number - 1) (slice_get (lasts hs 1 fs).visits (number - 1)) h (lasts hs 1 fs))
    ≡ lasts (hs ++ h ∷ []) 1 fs
number_noted hs h fs zero own =
    sym (others_stay hs h 1 fs (λ j below same. omega (arith, own, same)))
number_noted hs h fs (suc i) own =
    let place : suc i - 1 ≡ i = omega arith in
    ap (λ b. cond b (lasts hs 1 fs)
    (noted_at (suc i - 1) (slice_get (lasts hs 1 fs).visits (suc i - 1)) h (lasts hs 1 fs)))
    (ne_eqb (suc i) 0 (λ e. omega (arith, e)))
    ∙ ap (λ p. noted_at p (slice_get (lasts hs 1 fs).visits p) h (lasts hs 1 fs)) place
    ∙ noted_there hs h i 1 fs (omega (arith, own))

-- what is kept, after one more
one_noted : (hs : List Happening) (h : Happening) (fs : List Frame) →
    noted h (lasts hs 1 fs) ≡ lasts (hs ++ h ∷ []) 1 fs
one_noted hs h fs = number_noted hs h fs h.card.number refl

-- and after several
pub all_noted : (hs more : List Happening) (fs : List Frame) →
    noted_all more (lasts hs 1 fs) ≡ lasts (hs ++ more) 1 fs
all_noted hs [] fs = ap (λ gs. lasts gs 1 fs) (sym (append-nil hs))
all_noted hs (h ∷ more) fs =
    ap (noted_all more) (one_noted hs h fs) ∙ all_noted (hs ++ h ∷ []) more fs
    ∙ ap (λ gs. lasts gs 1 fs) (append_assoc hs (h ∷ []) more)

-- as many visits, payloads and lines as frames
visits_for_each : (hs : List Happening) (k : ℕ) (fs : List Frame) →
    length (lasts hs k fs).visits ≡ length fs
visits_for_each hs k [] = refl
visits_for_each hs k (f ∷ fs) = ap suc (visits_for_each hs (k + 1) fs)

payloads_for_each : (hs : List Happening) (k : ℕ) (fs : List Frame) →
    length (lasts hs k fs).payloads ≡ length fs
payloads_for_each hs k [] = refl
payloads_for_each hs k (f ∷ fs) = ap suc (payloads_for_each hs (k + 1) fs)

lines_for_each : (hs : List Happening) (k : ℕ) (fs : List Frame) →
    length (lasts hs k fs).lines ≡ length fs
lines_for_each hs k [] = refl
lines_for_each hs k (f ∷ fs) = ap suc (lines_for_each hs (k + 1) fs)

-- a line at a place is told of an event
pub set_told : (ls : List FateLine) (i : ℕ) (h : Happening) (l : FateLine) → i < length ls →
    l ≡ slice_index_or ls i l → slice_set ls i (told_line h l) ≡ told_at i h ls
set_told [] i h l below is = absurd (omega (arith, below))
set_told (k ∷ ls) zero h l below is = ap (λ m. told_line h m ∷ ls) is
set_told (k ∷ ls) (suc i) h l below is =
    ap (λ ms. k ∷ ms) (set_told ls i h l (omega (arith, below)) is)

abbrev kept_of : List ℕ → List (List ℕ) → List FateLine → Kept
kept_of vs ps ls = record { visits = vs; payloads = ps; lines = ls }

-- an event that is noted at its place, in the words of the code
noted_is : (h : Happening) (n v : ℕ) (visits : List ℕ) (payloads : List (List ℕ))
    (lines : List FateLine) → n ≡ h.card.number → 0 < n → n ≤ length visits →
    v ≡ slice_index_or visits (n - 1) v →
    noted h (record { visits = visits; payloads = payloads; lines = lines })
    ≡ noted_at (n - 1) (Some v) h
    (record { visits = visits; payloads = payloads; lines = lines })
noted_is h n v visits payloads lines own big below is =
    ap (λ m. cond (m == 0) kept (noted_at (m - 1) (slice_get visits (m - 1)) h kept)) (sym own)
    ∙ ap (λ b. cond b kept (noted_at (n - 1) (slice_get visits (n - 1)) h kept))
    (ne_eqb n 0 (λ e. omega (arith, e, big)))
    ∙ ap (λ at. noted_at (n - 1) at h kept)
    (slice_get_read visits (length visits) (n - 1) v refl (omega (arith, big, below)) is)
  where
    kept : Kept
    kept = record { visits = visits; payloads = payloads; lines = lines }

pub noted_later : (h : Happening) (n v visit : ℕ) (visits payload : List ℕ)
    (payloads : List (List ℕ)) (lines : List FateLine) (l told : FateLine) →
    n ≡ h.card.number → 0 < n → n ≤ length visits → AsMany visits payloads lines →
    v ≡ slice_index_or visits (n - 1) v → v ≤ visit → visit ≡ h.card.visit →
    payload ≡ h.card.bytes → l ≡ slice_index_or lines (n - 1) l → told ≡ told_line h l →
    record {
      visits = slice_set visits (n - 1) visit;
      payloads = slice_set payloads (n - 1) payload;
      lines = slice_set lines (n - 1) told;
    } ≡ noted h (record { visits = visits; payloads = payloads; lines = lines })
noted_later h n v visit visits payload payloads lines l told own big below each is later visit_is
    payload_is l_is told_is =
    ap₂ (λ w p. kept_of (slice_set visits (n - 1) w) (slice_set payloads (n - 1) p)
    (slice_set lines (n - 1) told)) visit_is payload_is
    ∙ ap (kept_of (slice_set visits (n - 1) h.card.visit) (slice_set payloads (n - 1) h.card.bytes))
    (ap (slice_set lines (n - 1)) told_is
    ∙ set_told lines (n - 1) h l (omega (arith, big, below, each.visits_are)) l_is)
    ∙ sym (ap (λ b. cond b (kept_of (slice_set visits (n - 1) h.card.visit)
    (slice_set payloads (n - 1) h.card.bytes) (told_at (n - 1) h lines))
    (kept_of visits payloads lines)) (le-leb v h.card.visit (omega (arith, later, visit_is))))
    ∙ sym (noted_is h n v visits payloads lines own big below is)

pub noted_earlier : (h : Happening) (n v : ℕ) (visits : List ℕ) (payloads : List (List ℕ))
    (lines : List FateLine) → n ≡ h.card.number → 0 < n → n ≤ length visits →
    v ≡ slice_index_or visits (n - 1) v → h.card.visit < v →
    record { visits = visits; payloads = payloads; lines = lines }
    ≡ noted h (record { visits = visits; payloads = payloads; lines = lines })
noted_earlier h n v visits payloads lines own big below is earlier =
    sym (noted_is h n v visits payloads lines own big below is
    ∙ ap (λ b. cond b (record {
      visits = slice_set visits (n - 1) h.card.visit;
      payloads = slice_set payloads (n - 1) h.card.bytes;
      lines = told_at (n - 1) h lines;
    }) (record { visits = visits; payloads = payloads; lines = lines }))
    (lt-leb v h.card.visit earlier))

-- ---- no event yet

-- so many frames have a line without an event, and these are still to come
pub record IsBegun (payloads : List (List ℕ)) (lines : List FateLine) (rest frames : List Frame) :
    Type 0 where
  pub payloads_are : payloads ++ (lasts [] (length lines + 1) rest).payloads
      ≡ (lasts [] 1 frames).payloads
  pub lines_are : lines ++ (lasts [] (length lines + 1) rest).lines ≡ (lasts [] 1 frames).lines
  pub left : length lines + length rest ≡ length frames

-- one frame more
pub one_begun : (payloads more : List (List ℕ)) (lines grown : List FateLine)
    (rest after frames : List Frame) (f : Frame) (number : ℕ) → rest ≡ f ∷ after →
    number ≡ length lines + 1 → more ≡ payloads ++ f.bytes ∷ [] →
    grown ≡ lines ++ untold_line number ∷ [] → IsBegun payloads lines rest frames →
    IsBegun more grown after frames
one_begun payloads more lines grown rest after frames f number front is more_is grown_is before =
    record {
      payloads_are =
          ap₂ (λ ps n. ps ++ (lasts [] n after).payloads) more_is next
          ∙ append_assoc payloads (f.bytes ∷ []) (lasts [] (length lines + 1 + 1) after).payloads
          ∙ ap (λ fs. payloads ++ (lasts [] (length lines + 1) fs).payloads) (sym front)
          ∙ before.payloads_are;
      lines_are =
          ap₂ (λ ls n. ls ++ (lasts [] n after).lines) grown_is next
          ∙ append_assoc lines (untold_line number ∷ [])
          (lasts [] (length lines + 1 + 1) after).lines
          ∙ ap (λ n. lines ++ untold_line n ∷ (lasts [] (length lines + 1 + 1) after).lines) is
          ∙ ap (λ fs. lines ++ (lasts [] (length lines + 1) fs).lines) (sym front)
          ∙ before.lines_are;
      left = omega (arith, long, ap (λ (fs : List Frame). length fs) front, before.left);
    }
  where
    long : length grown ≡ length lines + 1
    long =
        ap (λ (ls : List FateLine). length ls) grown_is
        ∙ length-append lines (untold_line number ∷ [])

    next : length grown + 1 ≡ length lines + 1 + 1
    next = omega (arith, long)

no_visits : (k : ℕ) (fs : List Frame) → replicate (length fs) 0 ≡ (lasts [] k fs).visits
no_visits k [] = refl
no_visits k (f ∷ fs) = ap (λ vs. 0 ∷ vs) (no_visits (k + 1) fs)

-- all frames
pub all_begun : (visits : List ℕ) (payloads : List (List ℕ)) (lines : List FateLine)
    (rest frames : List Frame) → rest ≡ [] → visits ≡ replicate (length frames) 0 →
    IsBegun payloads lines rest frames →
    record { visits = visits; payloads = payloads; lines = lines } ≡ lasts [] 1 frames
all_begun visits payloads lines rest frames none fresh before =
    ap (λ vs. kept_of vs payloads lines) (fresh ∙ no_visits 1 frames)
    ∙ ap₂ (kept_of (lasts [] 1 frames).visits) (sym (append-nil payloads)
    ∙ ap (λ fs. payloads ++ (lasts [] (length lines + 1) fs).payloads) (sym none)
    ∙ before.payloads_are) (sym (append-nil lines)
    ∙ ap (λ fs. lines ++ (lasts [] (length lines + 1) fs).lines) (sym none)
    ∙ before.lines_are)

-- and as many of each
pub as_many_begun : (visits : List ℕ) (payloads : List (List ℕ)) (lines : List FateLine)
    (frames : List Frame) →
    record { visits = visits; payloads = payloads; lines = lines } ≡ lasts [] 1 frames →
    AsMany visits payloads lines
as_many_begun visits payloads lines frames is =
    subst (λ (k : Kept). AsMany k.visits k.payloads k.lines) (sym is) (record {
      visits_are = visits_for_each [] 1 frames ∙ sym (lines_for_each [] 1 frames);
      payloads_are = payloads_for_each [] 1 frames ∙ sym (lines_for_each [] 1 frames);
    })

-- ---- payloads

-- the first lines have their payloads, so many of them
abbrev pub put_up_to : ℕ → List (List ℕ) → List FateLine → List FateLine
put_up_to zero ps ls = ls
put_up_to (suc i) [] ls = ls
put_up_to (suc i) (p ∷ ps) [] = []
put_up_to (suc i) (p ∷ ps) (l ∷ ls) = with_payload p l ∷ put_up_to i ps ls

one_put : (i : ℕ) (ps : List (List ℕ)) (ls : List FateLine) (p : List ℕ) (l : FateLine) →
    i < length ps → i < length ls → p ≡ slice_index_or ps i p →
    l ≡ slice_index_or (put_up_to i ps ls) i l →
    slice_set (put_up_to i ps ls) i (with_payload p l) ≡ put_up_to (suc i) ps ls
one_put i [] ls p l below small is there = absurd (omega (arith, below))
one_put i (q ∷ ps) [] p l below small is there = absurd (omega (arith, small))
one_put zero (q ∷ ps) (k ∷ ls) p l below small is there =
    ap₂ (λ r m. with_payload r m ∷ ls) is there
one_put (suc i) (q ∷ ps) (k ∷ ls) p l below small is there =
    ap (λ ms. with_payload q k ∷ ms)
    (one_put i ps ls p l (omega (arith, below)) (omega (arith, small)) is there)

-- one more
pub put_on : (i next : ℕ) (ps : List (List ℕ)) (ls now : List FateLine) (p : List ℕ)
    (l : FateLine) → next ≡ i + 1 → i < length ps → i < length ls → now ≡ put_up_to i ps ls →
    p ≡ slice_index_or ps i p → l ≡ slice_index_or now i l →
    slice_set now i (with_payload p l) ≡ put_up_to next ps ls
put_on i next ps ls now p l on below small before is there =
    ap (λ (ms : List FateLine). slice_set ms i (with_payload p l)) before
    ∙ one_put i ps ls p l below small is
    (there ∙ ap (λ (ms : List FateLine). slice_index_or ms i l) before)
    ∙ ap (λ n. put_up_to n ps ls) (let same : suc i ≡ next = omega (arith, on) in same)

-- all
pub all_put : (ps : List (List ℕ)) (ls : List FateLine) (count : ℕ) → length ps ≡ count →
    length ls ≡ count → put_up_to count ps ls ≡ with_payloads ps ls
all_put [] [] zero many same = refl
all_put [] [] (suc n) many same = absurd (omega (arith, many))
all_put [] (l ∷ ls) count many same = absurd (omega (arith, many, same))
all_put (p ∷ ps) [] count many same = absurd (omega (arith, many, same))
all_put (p ∷ ps) (l ∷ ls) zero many same = absurd (omega (arith, many))
all_put (p ∷ ps) (l ∷ ls) (suc n) many same =
    ap (λ ms. with_payload p l ∷ ms)
    (all_put ps ls n (omega (arith, many)) (omega (arith, same)))

-- ---- lines

lost_or_not : (lost : ℕ → Bool) (k : ℕ) (f : Frame) (last : Option Happening) →
    lost_line lost (with_payload (payload_of f last) (bare_line k last))
    ≡ fate_line (lost k) k f last
lost_or_not lost k f None = refl
lost_or_not lost k f (Some h) = refl

-- the lines that are kept, with their payloads and the fate of what was lost, are the fates
pub lines_are : (hs : List Happening) (lost : List Lost) (k : ℕ) (fs : List Frame) →
    map (lost_line (is_lost lost)) (with_payloads (lasts hs k fs).payloads (lasts hs k fs).lines)
    ≡ fates_from hs lost k fs
lines_are hs lost k [] = refl
lines_are hs lost k (f ∷ fs) =
    ap (λ l. l ∷ map (lost_line (is_lost lost))
    (with_payloads (lasts hs (k + 1) fs).payloads (lasts hs (k + 1) fs).lines))
    (lost_or_not (is_lost lost) k f (last_of k hs None))
    ∙ ap (λ ls. fate_line (is_lost lost k) k f (last_of k hs None) ∷ ls)
    (lines_are hs lost (k + 1) fs)

-- one for each frame
pub fates_for_each : (hs : List Happening) (lost : List Lost) (k : ℕ) (fs : List Frame) →
    length (fates_from hs lost k fs) ≡ length fs
fates_for_each hs lost k [] = refl
fates_for_each hs lost k (f ∷ fs) = ap suc (fates_for_each hs lost (k + 1) fs)

-- where nothing was lost the lines stay
pub none_lost : (ls : List FateLine) → ls ≡ map (lost_line (is_lost [])) ls
none_lost [] = refl
none_lost (l ∷ ls) = ap (λ ms. l ∷ ms) (none_lost ls)

-- with another test that says the same
pub same_lines : (one other : ℕ → Bool) → ((n : ℕ) → one n ≡ other n) → (ls : List FateLine) →
    map (lost_line one) ls ≡ map (lost_line other) ls
same_lines one other same [] = refl
same_lines one other same (l ∷ ls) =
    ap (λ b. record l { fate = fate_unless b l.fate } ∷ map (lost_line one) ls) (same l.number)
    ∙ ap (λ ms. lost_line other l ∷ ms) (same_lines one other same ls)

-- ---- lost packets

moved : (a b c : Bool) → cond a true b || c ≡ b || (a || c)
moved true true c = refl
moved true false c = refl
moved false true c = refl
moved false false c = refl

-- one number more is kept, and the others are still to come
pub lost_on : (old new : BTreeSet ℕ) (left rest whole : List Lost) (one : Lost) →
    left ≡ one ∷ rest → ((q : ℕ) → contains nat_cmp new q
    ≡ cond (is_at (nat_cmp one.number) q) true (contains nat_cmp old q)) →
    ((q : ℕ) → contains nat_cmp old q || is_lost left q ≡ is_lost whole q) →
    (q : ℕ) → contains nat_cmp new q || is_lost rest q ≡ is_lost whole q
lost_on old new left rest whole one front added before q =
    ap (λ b. b || is_lost rest q)
    (added q ∙ ap (λ b. cond b true (contains nat_cmp old q)) (sym (unsigned_ties one.number q)))
    ∙ moved (one.number == q) (contains nat_cmp old q) (is_lost rest q)
    ∙ ap (λ (ls : List Lost). contains nat_cmp old q || is_lost ls q) (sym front) ∙ before q
