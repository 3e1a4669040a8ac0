-- Which frames the released capture has, and how each is written.
use Rattle.std.proofs.Common.{◌≡◌, ℕ, List, [], ◌∷◌, ◌++◌, length, map, take, drop, Option, Some}
use Rattle.std.proofs.Common.{None, Bool, true, false, cond, refl, sym, ap, ◌∙◌, inl, inr, ◌⊎◌}
use Rattle.std.proofs.Common.{subst, arith}
use Rattle.std.specs.Prelude.{filter, ◌||◌}
use Rattle.std.specs.List.{zip}
use Rattle.std.specs.Str.{bytes_eq}
use Rattle.std.proofs.lemmas.Bool.{eq-eqb, and_parts, eqb-true}
use Rattle.std.proofs.Common.{eqb}
use Rattle.ip_fields.specs.declared.frame.LinkCut.{LinkCut}
use Rattle.ip_fields.specs.Frame.{cut_of}
use Rattle.pcap_io.specs.declared.capture.Frame.{Frame}
use Rattle.fate_ledger.specs.declared.fate.Fate.{Fate}
use Rattle.fate_ledger.specs.declared.fate.Fate.TheVariants as fate
use Rattle.fate_ledger.specs.declared.fate.FateLine.{FateLine}
use Rattle.fate_ledger.specs.Ledger.{is_release}
use Rattle.fate_ledger.specs.Released as text
use Rattle.fate_ledger.specs.Laws.{StaysAsRead, IsWritten}

-- the frames that are kept are those whose fate is a release
pub in_order : (link : ℕ) (fs : List Frame) (ls : List FateLine) → length fs ≡ length ls →
    text.frames link fs ls ≡ map (λ (p : Frame × FateLine). text.written link p.0 p.1)
    (filter (λ (p : Frame × FateLine). is_release p.1.fate) (zip fs ls))
in_order link [] [] same = refl
in_order link [] (l ∷ ls) same = refl
in_order link (f ∷ fs) [] same = absurd (omega (arith, same))
in_order link (f ∷ fs) (l ∷ ls) same =
    elim (is_release l.fate) as (λ b.
    cond b (text.written link f l ∷ text.frames link fs ls) (text.frames link fs ls)
    ≡ map (λ (p : Frame × FateLine). text.written link p.0 p.1)
    (cond b ((f, l) ∷ filter (λ (p : Frame × FateLine). is_release p.1.fate) (zip fs ls))
    (filter (λ (p : Frame × FateLine). is_release p.1.fate) (zip fs ls)))) [
      | true ↦ ap (λ gs. text.written link f l ∷ gs) (in_order link fs ls (omega (arith, same)))
      | false ↦ in_order link fs ls (omega (arith, same))
    ]

-- bytes are equal to themselves, and to no others
pub equal_bytes : (xs ys : List ℕ) → xs ≡ ys → bytes_eq xs ys ≡ true
equal_bytes xs ys same = subst (λ (zs : List ℕ). bytes_eq xs zs ≡ true) same (own xs)
  where
    own : (xs : List ℕ) → bytes_eq xs xs ≡ true
    own [] = refl
    own (x ∷ xs) = rw (eq-eqb x x refl) (own xs)

pub unequal_bytes : (xs ys : List ℕ) → bytes_eq xs ys ≡ true → xs ≡ ys
unequal_bytes [] [] same = refl
unequal_bytes [] (y ∷ ys) same = absurd (cc)
unequal_bytes (x ∷ xs) [] same = absurd (cc)
unequal_bytes (x ∷ xs) (y ∷ ys) same =
    let parts = and_parts (eqb x y) (bytes_eq xs ys) same in
    ap (λ z. z ∷ xs) (eqb-true x y parts.0) ∙ ap (λ zs. y ∷ zs) (unequal_bytes xs ys parts.1)

unhooked_is : (f : Fate) → f ≡ fate.Unhooked → text.is_unhooked f ≡ true
unhooked_is f is = ap text.is_unhooked is

is_unhooked : (f : Fate) → text.is_unhooked f ≡ true → f ≡ fate.Unhooked
is_unhooked fate.Unhooked is = refl
is_unhooked fate.Accept is = absurd (cc)
is_unhooked fate.Stop is = absurd (cc)
is_unhooked fate.Repeat is = absurd (cc)
is_unhooked fate.FailOpen is = absurd (cc)
is_unhooked fate.Bypass is = absurd (cc)
is_unhooked fate.Dropped is = absurd (cc)
is_unhooked fate.Overflow is = absurd (cc)
is_unhooked fate.UserFull is = absurd (cc)
is_unhooked fate.NoQueue is = absurd (cc)
is_unhooked fate.CopyNone is = absurd (cc)
is_unhooked fate.Loop is = absurd (cc)
is_unhooked fate.Unbind is = absurd (cc)
is_unhooked fate.PortClosed is = absurd (cc)
is_unhooked fate.DeviceDown is = absurd (cc)
is_unhooked fate.Waiting is = absurd (cc)
is_unhooked fate.NoMemory is = absurd (cc)

either_true : (a b : Bool) → (a ≡ true) ⊎ (b ≡ true) → (a || b) ≡ true
either_true a b (inl e) = ap (λ c. c || b) e
either_true true b (inr e) = refl
either_true false b (inr e) = e

neither : (a b : Bool) → (a ≡ false) → (b ≡ false) → (a || b) ≡ false
neither a b e g = ap (λ c. c || b) e ∙ g

false_unless : (b : Bool) → (b ≡ true → ⊥) → b ≡ false
false_unless true no_ = absurd (no_ refl)
false_unless false no_ = refl

by_cut : (link : ℕ) (f : Frame) (l : FateLine) (o : Option LinkCut) → cut_of link f.bytes ≡ o →
    IsWritten link f l (text.written_cut o f l)
by_cut link f l None is = record {
  seconds = refl;
  fraction = refl;
  as_read = λ stays. refl;
  replaced = λ cut r. absurd (let wrong : None ≡ Some cut = sym is ∙ r.header in cc);
}
by_cut link f l (Some cut) is = record {
  seconds = same (λ g. g.seconds) refl;
  fraction = same (λ g. g.fraction) refl;
  as_read = λ stays. ap (λ b. cond b f (text.with_bytes f (take cut.length f.bytes ++ l.payload)))
      (either_true (text.is_unhooked l.fate) (bytes_eq (drop cut.length f.bytes) l.payload)
      (test stays));
  replaced = λ other r. (let own : other ≡ cut = here other r.header in
      let not_ : (text.is_unhooked l.fate || bytes_eq (drop cut.length f.bytes) l.payload) ≡ false =
      neither _ _ (false_unless _ (λ e. r.queued (is_unhooked l.fate e)))
      (false_unless _ (λ e. r.other (ap (λ (c : LinkCut). drop c.length f.bytes) own
      ∙ unequal_bytes (drop cut.length f.bytes) l.payload e))) in (
        ap (λ b. (cond b f (text.with_bytes f (take cut.length f.bytes ++ l.payload))).bytes) not_
            ∙ ap (λ (c : LinkCut). take c.length f.bytes ++ l.payload) (sym own),
        ap (λ b. (cond b f (text.with_bytes f (take cut.length f.bytes ++ l.payload))).original)
            not_
            ∙ sym (ap (λ b. length (cond b f (text.with_bytes f
            (take cut.length f.bytes ++ l.payload))).bytes) not_),
      ));
}
  where
    same : {X : Type 0} (g : Frame → X) →
        g (text.with_bytes f (take cut.length f.bytes ++ l.payload)) ≡ g f →
        g (text.written_cut (Some cut) f l) ≡ g f
    same g e = elim (text.is_unhooked l.fate || bytes_eq (drop cut.length f.bytes) l.payload) as
        (λ b. g (cond b f (text.with_bytes f (take cut.length f.bytes ++ l.payload))) ≡ g f) [
          | true ↦ refl
          | false ↦ e
        ]

    here : (other : LinkCut) → cut_of link f.bytes ≡ Some other → other ≡ cut
    here other there = let both : Some other ≡ Some cut = sym there ∙ is in cc

    test : StaysAsRead link f l → (text.is_unhooked l.fate ≡ true)
        ⊎ (bytes_eq (drop cut.length f.bytes) l.payload ≡ true)
    test (inl none) = absurd (let wrong : None ≡ Some cut = sym none ∙ is in cc)
    test (inr (inl unhooked)) = inl (unhooked_is l.fate unhooked)
    test (inr (inr kept)) = inr (equal_bytes _ _
        (ap (λ (c : LinkCut). drop c.length f.bytes) (sym (here kept.0 kept.1)) ∙ kept.2))

pub as_written : (link : ℕ) (f : Frame) (l : FateLine) → IsWritten link f l (text.written link f l)
as_written link f l = by_cut link f l (cut_of link f.bytes) refl
