-- Letters with their times, and the same letters without them.
use Rattle.std.proofs.Common.{◌≡◌, ℕ, ◌+◌, inl, inr, List, [], ◌∷◌, ◌++◌, length, Bool, true, false}
use Rattle.std.proofs.Common.{refl, sym, ap, ◌∙◌, arith, nat_eq, if◌then◌else◌}
use Rattle.std.proofs.lemmas.List.{map-append, length-map}
use mathlib.Core.List.{IsPrefix}
use Rattle.packet_entry.specs.declared.letter.Letter.{Letter}
use Rattle.mailbox.specs.declared.view.Mail.{Mail}
use Rattle.mailbox.specs.declared.view.Post.{Post}
use Rattle.mailbox.specs.Roles.{In}
use Rattle.mailbox.specs.Views.{mail_of, letters_of, mails_of, bare_letters, bare_senders, numbers}
use Rattle.mailbox.specs.Views.{letters_in, Prefixes, TimedPrefixes, Wholes}
use Rattle.mailbox.specs.Lines.{AreSent}

-- two lists of letters, without times
pub bare_append : (xs ys : List Mail)
    → bare_letters (xs ++ ys) ≡ bare_letters xs ++ bare_letters ys
bare_append xs ys = map-append (λ (m : Mail). m.letter) xs ys

-- the letters of one sender are those with times, without their times
pub letters_of_mails : (k : ℕ) (posts : List Post)
    → letters_of k posts ≡ bare_letters (mails_of k posts)
letters_of_mails k [] = refl
letters_of_mails k (p ∷ ps) =
    by_test (nat_eq p.from k) (mail_of p) (letters_of k ps) (mails_of k ps) (letters_of_mails k ps)
  where
    by_test : (b : Bool) (x : Mail) (xs : List Letter) (ys : List Mail) → xs ≡ bare_letters ys
        → (if b then x.letter ∷ xs else xs) ≡ bare_letters (if b then x ∷ ys else ys)
    by_test true x xs ys e = ap (λ l. x.letter ∷ l) e
    by_test false x xs ys e = e

-- ---- senders
-- a sender more is a number more
pub numbers_more : (known : List (ℕ × List Mail)) (s : ℕ × List Mail)
    → numbers (bare_senders (known ++ s ∷ [])) ≡ numbers (bare_senders known) ++ s.0 ∷ []
numbers_more [] s = refl
numbers_more (t ∷ ts) s = ap (λ l. t.0 ∷ l) (numbers_more ts s)

-- and its letters are so many more
pub letters_in_more : (known : List (ℕ × List Mail)) (s : ℕ × List Mail)
    → letters_in (bare_senders (known ++ s ∷ []))
    ≡ letters_in (bare_senders known) + length s.1
letters_in_more [] s =
    let same : length (bare_letters s.1) ≡ length s.1 = length-map s.1 (λ (m : Mail). m.letter) in
    omega arith
letters_in_more (t ∷ ts) s = let r = letters_in_more ts s in omega arith

-- ---- what each sender sent
-- where these senders sent the same, it is still what they sent
pub sent_same : (sent sent' : ℕ → List Mail) (known : List (ℕ × List Mail))
    → ((k : ℕ) → In k (numbers (bare_senders known)) → sent k ≡ sent' k)
    → AreSent sent known → AreSent sent' known
sent_same sent sent' [] f a = tt
sent_same sent sent' (s ∷ ss) f a =
    (a.0 ∙ f s.0 (inl refl), sent_same sent sent' ss (λ k i. f k (inr i)) a.1)

-- where one more is known with what it sent, all are
pub sent_more : (sent : ℕ → List Mail) (known : List (ℕ × List Mail)) (s : ℕ × List Mail)
    → AreSent sent known → s.1 ≡ sent s.0 → AreSent sent (known ++ s ∷ [])
sent_more sent [] s a e = (e, tt)
sent_more sent (t ∷ ts) s a e = (a.0, sent_more sent ts s a.1 e)

-- what was received is a prefix of what each sent, with times
pub timed_prefixes : (sent : ℕ → List Mail) (got : List Post) (known : List (ℕ × List Mail))
    → ((k : ℕ) → IsPrefix (mails_of k got) (sent k)) → AreSent sent known
    → TimedPrefixes got known
timed_prefixes sent got [] f a = tt
timed_prefixes sent got (s ∷ ss) f a =
    let p = f s.0 in ((p.0, p.1 ∙ sym a.0), timed_prefixes sent got ss f a.1)

-- and without
pub bare_prefixes : (got : List Post) (known : List (ℕ × List Mail)) → TimedPrefixes got known
    → Prefixes got (bare_senders known)
bare_prefixes got [] a = tt
bare_prefixes got (s ∷ ss) a =
    let p = a.0 in (
      (
        bare_letters p.0,
        ap (λ l. l ++ bare_letters p.0) (letters_of_mails s.0 got)
            ∙ (sym (bare_append (mails_of s.0 got) p.0) ∙ ap bare_letters p.1),
      ),
      bare_prefixes got ss a.1,
    )

-- what was received is what each sent, without times
pub bare_wholes : (sent : ℕ → List Mail) (got : List Post) (known : List (ℕ × List Mail))
    → ((k : ℕ) → mails_of k got ≡ sent k) → AreSent sent known → Wholes got (bare_senders known)
bare_wholes sent got [] f a = tt
bare_wholes sent got (s ∷ ss) f a = (
  letters_of_mails s.0 got ∙ ap bare_letters (f s.0 ∙ sym a.0),
  bare_wholes sent got ss f a.1,
)
