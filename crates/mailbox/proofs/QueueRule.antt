-- Each kind of step keeps the rule of the queue, and tells what it says.
use Rattle.std.proofs.Common.{◌≡◌, ℕ, ◌+◌, ◌≢◌, ◌<◌, ◌≤◌, ⊎_elim, Bool, true, false}
use Rattle.std.proofs.lemmas.Bool.{cases_lt}
use Rattle.std.proofs.Common.{List, [], ◌∷◌, ◌++◌, length, set, refl, sym, ap, ◌∙◌, subst}
use Rattle.std.proofs.Common.{arith, true≢false, append_assoc, append-nil, length-append, nat_eq}
use Rattle.std.proofs.Common.{if◌then◌else◌}
use mathlib.Core.Option.{some}
use borrow.Author.Tests.{eq-eqb, ne_eqb}
use lib.ListN.{get_elem?}
use Rattle.crossbeam_queue.specs.Fifo.{Pushes, Pops, Forks, Merges, Learns}
use Rattle.table_seats.specs.Seats.{each_first, each_set, each_split, each_joined, was_there}
use Rattle.table_seats.specs.Seats.{set_there}
use Rattle.table_seats.specs.Sums.{sum_set, sum_more, sum_joined, sum_of_one}
use Rattle.mailbox.specs.declared.view.Mail.{Mail}
use Rattle.mailbox.specs.declared.view.Role.{Role}
use Rattle.mailbox.specs.declared.view.Line.{Line}
use Rattle.mailbox.specs.declared.view.Post.{Post}
use Rattle.mailbox.specs.Roles.{In, HasAll, AreDistinct}
use Rattle.mailbox.specs.Views.{mail_of, mails_of, bare_letters, bare_senders, letters_in, AreOf}
use Rattle.mailbox.specs.Lines.{known_numbers, Knows, InOrder, IsTold, weight, first_line}
use Rattle.mailbox.specs.Lines.{sending_line}
use Rattle.mailbox.specs.Lines.{receiving_line, spent_line, parent_line, child_line, put_line}
use Rattle.mailbox.specs.Lines.{got_line, joined_line}
use Rattle.mailbox.proofs.BareLetters.{letters_of_mails, numbers_more, letters_in_more, sent_same}
use Rattle.mailbox.proofs.BareLetters.{sent_more, timed_prefixes, bare_prefixes, bare_wholes}
use Rattle.mailbox.proofs.EndRoles.{opens, stays, cuts, splits, joins, alone, one_gets, one_number}

-- ---- letters of one sender
mails_append : (k : ℕ) (xs ys : List Post) → mails_of k (xs ++ ys)
    ≡ mails_of k xs ++ mails_of k ys
mails_append k [] ys = refl
mails_append k (p ∷ ps) ys =
    let rest = mails_append k ps ys in
    by_test (nat_eq p.from k) (mail_of p) (mails_of k (ps ++ ys)) (mails_of k ps)
    (mails_of k ys) rest
  where
    by_test : (b : Bool) (x : Mail) (all xs zs : List Mail) → all ≡ xs ++ zs
        → (if b then x ∷ all else all) ≡ (if b then x ∷ xs else xs) ++ zs
    by_test true x all xs zs e = ap (λ l. x ∷ l) e
    by_test false x all xs zs e = e

-- one post is a letter of its sender, and of no other
own_post : (k : ℕ) (p : Post) → p.from ≡ k → mails_of k (p ∷ []) ≡ mail_of p ∷ []
own_post k p e = ap (λ b. if b then mail_of p ∷ [] else []) (eq-eqb p.from k e)

other_post : (k : ℕ) (p : Post) → p.from ≢ k → mails_of k (p ∷ []) ≡ []
other_post k p e = ap (λ b. if b then mail_of p ∷ [] else []) (ne_eqb p.from k e)

none_left : {A : Type 0} (xs : List A) → length xs ≡ 0 → xs ≡ []
none_left [] e = refl
none_left (x ∷ xs) e = absurd (omega arith)

length_more : {A : Type 0} (xs : List A) (x : A) → length (xs ++ x ∷ []) ≡ length xs + 1
length_more xs x = length-append xs (x ∷ [])

abbrev role_of : Line → Role
role_of v = v.role

-- ---- the opening
pub line_opens : InOrder [] (first_line ∷ [])
line_opens = record {
  ends = opens role_of first_line refl;
  sent = λ _. [];
  got = [];
  all = λ k. refl;
  unmade = λ k h. refl;
  counted = refl;
  each = each_first (λ id v. Knows (λ _. []) [] v) first_line
      (record {
        put = λ _. refl;
        got = λ _. refl;
        known = λ _. tt;
        names = λ _. refl;
        silent = λ _. refl;
        blind = λ _. refl;
      });
}

-- an end that neither sends nor receives weighs nothing
weightless : (sent : ℕ → List Mail) (taken : List Post) (v : Line) → Knows sent taken v
    → v.role.sends ≡ false → v.role.gets ≡ false → weight v ≡ 0
weightless sent taken v k sends gets =
    let a : length v.put ≡ 0 = ap length (k.silent sends) in
    let b : letters_in (bare_senders v.known) ≡ 0 =
    ap (λ l. letters_in (bare_senders l)) (k.blind gets) in omega arith

-- a letter that is in a list is one of its sender's
has_letter : (before after : List Post) (p : Post) →
    mails_of p.from (before ++ p ∷ after) ≡ [] → ⊥
has_letter before after p e =
    let a = mails_append p.from before (p ∷ after) in
    let b = mails_append p.from (p ∷ []) after in
    let c : length (mails_of p.from before ++ mails_of p.from (p ∷ after)) ≡ 0 =
    ap length (sym a ∙ e) in
    let d = length-append (mails_of p.from before) (mails_of p.from (p ∷ after)) in
    let f : length (mails_of p.from (p ∷ after))
    ≡ length ((mail_of p ∷ []) ++ mails_of p.from after) =
    ap length (b ∙ ap (λ l. l ++ mails_of p.from after) (own_post p.from p refl)) in
    omega arith

-- where all senders are known, each letter is of one of them
of_known : (sent : ℕ → List Mail) (made : ℕ) (known : List ℕ) (whole : List Post)
    → ((k : ℕ) → mails_of k whole ≡ sent k)
    → ((k : ℕ) → made ≤ k → sent k ≡ []) → ((k : ℕ) → k < made → In k known)
    → (before got items : List Post) → whole ≡ before ++ (got ++ items) → AreOf got known
of_known sent made known whole all unmade has before [] items e = tt
of_known sent made known whole all unmade has before (p ∷ ps) items e = (
  ⊎_elim (λ (h : p.from < made). has p.from h)
      (λ (h : made ≤ p.from). absurd (has_letter before (ps ++ items) p
      (ap (mails_of p.from) (sym e) ∙ (all p.from ∙ unmade p.from h))))
      (cases_lt p.from made),
  of_known sent made known whole all unmade has (before ++ p ∷ []) ps items
      (e ∙ sym (append_assoc before (p ∷ []) (ps ++ items))),
)

-- what stands before nothing is nothing
none_before : {A : Type 0} (xs ys : List A) → xs ++ ys ≡ [] → xs ≡ []
none_before xs ys e =
    let a = length-append xs ys in
    let b : length (xs ++ ys) ≡ 0 = ap length e in none_left xs (omega arith)

-- ---- what the receiver is told
pub tells : (items : List Post) (views : List Line) (r : InOrder items views) (port : ℕ) (v : Line)
    → get_elem? views port ≡ some v → v.role.sends ≡ false → v.role.gets ≡ true → IsTold v
tells items views r port v at sends gets =
    let k = r.each port v at in
    let split : (n : ℕ) → mails_of n v.got ++ mails_of n items ≡ r.sent n =
    λ n. ap (λ (g : List Post). mails_of n g ++ mails_of n items) (k.got gets)
    ∙ (sym (mails_append n r.got items) ∙ r.all n) in
    let timed = timed_prefixes r.sent v.got v.known (λ n. (mails_of n items, split n))
    (k.known gets) in record {
      prefix = bare_prefixes v.got v.known timed;
      in_time = timed;
      senders = λ has.
          let has' : HasAll v.role.made v.role.joined =
          subst (HasAll v.role.made) (sym (k.names gets)) has in
          let zero_in = has'.0 in
          let ended = ((r.ends.fits port v at).receiver gets).1 0 zero_in in
          let made : v.role.made ≡ r.ends.made = (r.ends.fits port v at).all_made gets ended in
          of_known r.sent v.role.made (known_numbers v) (r.got ++ items) r.all
          (λ n h. r.unmade n (omega arith)) has.1 [] v.got items
          (ap (λ (g : List Post). g ++ items) (sym (k.got gets)));
      once = subst AreDistinct (k.names gets) ((r.ends.fits port v at).once gets);
      made = λ zero_in n n_in.
          let role = r.ends.fits port v at in
          let ends = (role.receiver gets).1 in
          let in_role : (j : ℕ) → In j (known_numbers v) → In j v.role.joined =
          λ j i. subst (In j) (sym (k.names gets)) i in
          let made : v.role.made ≡ r.ends.made =
          role.all_made gets (ends 0 (in_role 0 zero_in)) in
          ⊎_elim (λ (h : n < v.role.made). h)
          (λ (h : v.role.made ≤ n). absurd (true≢false (sym (ends n (in_role n n_in))
          ∙ r.ends.unmade n (omega arith)))) (cases_lt n v.role.made);
      beyond = λ zero_in n above.
          let role = r.ends.fits port v at in
          let made : v.role.made ≡ r.ends.made =
          role.all_made gets ((role.receiver gets).1 0
          (subst (In 0) (sym (k.names gets)) zero_in)) in
          letters_of_mails n v.got
          ∙ ap bare_letters (none_before (mails_of n v.got) (mails_of n items)
          (split n ∙ r.unmade n (omega arith)));
      inside = λ has.
          let zero_in = subst (In 0) (sym (k.names gets)) has.0 in
          let role = r.ends.fits port v at in
          let made : v.role.made ≡ r.ends.made =
          role.all_made gets ((role.receiver gets).1 0 zero_in) in record {
            inside = items;
            whole = bare_wholes r.sent (v.got ++ items) v.known
                (λ n. mails_append n v.got items ∙ split n) (k.known gets);
            senders = of_known r.sent v.role.made (known_numbers v) (r.got ++ items) r.all
                (λ n h. r.unmade n (omega arith)) has.1 [] (v.got ++ items) []
                (ap (λ (g : List Post). g ++ items) (sym (k.got gets))
                ∙ sym (append-nil (v.got ++ items)));
          };
      whole = λ has same.
          let has' : HasAll v.role.made v.role.joined =
          subst (HasAll v.role.made) (sym (k.names gets)) has in
          let alone_weighs = sum_of_one weight views port v at
          (λ i u ne at_u. let a = alone role_of views r.ends port v at gets has' i u ne at_u in
          weightless r.sent r.got u (r.each i u at_u) a.0 a.1) in
          let silent : length v.put ≡ 0 = ap length (k.silent sends) in
          let taken : length v.got ≡ length r.got = ap length (k.got gets) in
          let c = r.counted in
          let none : items ≡ [] = none_left items (omega arith) in
          bare_wholes r.sent v.got v.known
          (λ n. sym (append-nil (mails_of n v.got))
          ∙ (ap (λ (l : List Post). mails_of n v.got ++ mails_of n l) (sym none) ∙ split n))
          (k.known gets);
    }

-- ---- a letter is put in
pub puts : (n port : ℕ) (v : Line) (post : Post) → v.role.sends ≡ true
    → post.from ≡ v.role.number → v.role.gets ≡ false
    → Pushes InOrder n port v post (λ w. w ≡ put_line v (mail_of post))
puts n port v post sends from gets items views _ r at =
    let w : Line = put_line v (mail_of post) in
    let sent : ℕ → List Mail = λ k. r.sent k ++ mails_of k (post ∷ []) in
    let mine = r.each port v at in
    let seated = (r.ends.fits port v at).sender sends in
    let low = seated.1 in
    let p = sum_set weight views port v w at in
    let q = length_more v.put (mail_of post) in
    let t = length_more items post in
    let c = r.counted in
    let K : ℕ → Line → Type 0 = λ id u. Knows sent r.got u in (
      w,
      record {
        ends = stays role_of views r.ends port v w at refl;
        sent = sent;
        got = r.got;
        all = λ k. ap (mails_of k) (sym (append_assoc r.got items (post ∷ [])))
            ∙ (mails_append k (r.got ++ items) (post ∷ [])
            ∙ ap (λ l. l ++ mails_of k (post ∷ [])) (r.all k));
        unmade = λ k h. ap (λ l. l ++ mails_of k (post ∷ [])) (r.unmade k h)
            ∙ other_post k post (λ e. omega arith);
        counted = omega arith;
        each = each_set K views port w
            (record {
              put = λ _. ap (λ l. l ++ mail_of post ∷ []) (mine.put sends)
                  ∙ ap (λ l. r.sent v.role.number ++ l) (sym (own_post v.role.number post from));
              got = mine.got;
              known = λ h. absurd (true≢false (sym h ∙ gets));
              names = mine.names;
              silent = λ h. absurd (true≢false (sym sends ∙ h));
              blind = mine.blind;
            })
            (λ i u ne at_u. let k = r.each i u at_u in record {
              put = λ h. k.put h
                  ∙ (sym (append-nil (r.sent u.role.number))
                  ∙ ap (λ l. r.sent u.role.number ++ l)
                  (sym (other_post u.role.number post
                  (λ e. one_number role_of views r.ends port i v u at at_u sends h ne
                  (sym e ∙ from)))));
              got = k.got;
              known = λ h. sent_same r.sent sent u.known
                  (λ n is. sym (append-nil (r.sent n))
                  ∙ ap (λ l. r.sent n ++ l)
                  (sym (other_post n post (λ (f : post.from ≡ n). true≢false
                  (sym (((r.ends.fits i u at_u).receiver h).1 n
                  (subst (In n) (sym (k.names h)) is))
                  ∙ (ap r.ends.ended (sym f ∙ from) ∙ seated.2))))))
                  (k.known h);
              names = k.names;
              silent = k.silent;
              blind = k.blind;
            });
      },
      refl,
    )

-- ---- a letter is taken out
pub pops : (port : ℕ) (v : Line) → v.role.sends ≡ false → v.role.gets ≡ true
    → Pops InOrder port v (λ post w. (w ≡ got_line v post) × IsTold w)
pops port v sends gets post items views r at =
    let w : Line = got_line v post in
    let got : List Post = r.got ++ post ∷ [] in
    let mine = r.each port v at in
    let p = sum_set weight views port v w at in
    let t = length_more r.got post in
    let c = r.counted in
    let K : ℕ → Line → Type 0 = λ id u. Knows r.sent got u in
    let after : InOrder items (set views port w) = record {
      ends = stays role_of views r.ends port v w at refl;
      sent = r.sent;
      got = got;
      all = λ k. ap (mails_of k) (append_assoc r.got (post ∷ []) items) ∙ r.all k;
      unmade = r.unmade;
      counted = omega arith;
      each = each_set K views port w
          (record {
            put = mine.put;
            got = λ h. ap (λ l. l ++ post ∷ []) (mine.got h);
            known = mine.known;
            names = mine.names;
            silent = mine.silent;
            blind = mine.blind;
          })
          (λ i u ne at_u. let k = r.each i u at_u in record {
            put = k.put;
            got = λ h. absurd (one_gets role_of views r.ends port i v u at at_u gets h ne);
            known = k.known;
            names = k.names;
            silent = k.silent;
            blind = k.blind;
          });
    } in (
      w,
      after,
      (refl, tells items (set views port w) after port w (set_there views port v w at) sends gets),
    )

pub learns_line : (port : ℕ) (v : Line) → v.role.sends ≡ false → v.role.gets ≡ true
    → Learns InOrder port v (λ items. IsTold v)
learns_line port v sends gets items views r at = tells items views r port v at sends gets

-- ---- ends that come and go
pub line_cuts : (port : ℕ) (v : Line) → v ≡ first_line
    → Forks InOrder port v sending_line receiving_line
line_cuts port v is items views r at =
    let mine = subst (Knows r.sent r.got) is (r.each port v at) in
    let l : Line = sending_line in
    let w : Line = receiving_line in
    let K : ℕ → Line → Type 0 = λ id u. Knows r.sent r.got u in
    let p = sum_more weight views port v l w at (sym (ap weight is)) refl in
    let c = r.counted in record {
      ends = cuts role_of views r.ends port v l w at (ap role_of is) refl refl;
      sent = r.sent;
      got = r.got;
      all = r.all;
      unmade = r.unmade;
      counted = omega arith;
      each = each_split K views port l w
          (record {
            put = λ _. mine.put refl;
            got = λ h. absurd (true≢false (sym h));
            known = λ h. absurd (true≢false (sym h));
            names = λ h. absurd (true≢false (sym h));
            silent = λ _. refl;
            blind = λ _. refl;
          })
          (record {
            put = λ h. absurd (true≢false (sym h));
            got = λ _. mine.got refl;
            known = λ _. tt;
            names = λ _. refl;
            silent = λ _. refl;
            blind = λ _. refl;
          })
          (λ i u ne at_u. r.each i u at_u);
    }

pub line_splits : (port : ℕ) (v : Line) → v.role.sends ≡ true → v.role.gets ≡ false
    → v.role.number ≡ 0 → Forks InOrder port v (parent_line v) (child_line v)
line_splits port v sends gets is_zero items views r at =
    let mine = r.each port v at in
    let l : Line = parent_line v in
    let w : Line = child_line v in
    let K : ℕ → Line → Type 0 = λ id u. Knows r.sent r.got u in
    let p = sum_more weight views port v l w at refl refl in
    let made : v.role.made ≡ r.ends.made = (r.ends.fits port v at).zero sends is_zero in
    let c = r.counted in record {
      ends = splits role_of views r.ends port v l w at sends gets is_zero refl refl;
      sent = r.sent;
      got = r.got;
      all = r.all;
      unmade = λ k h. r.unmade k (omega arith);
      counted = omega arith;
      each = each_split K views port l w
          (record {
            put = mine.put;
            got = mine.got;
            known = mine.known;
            names = mine.names;
            silent = mine.silent;
            blind = mine.blind;
          })
          (record {
            put = λ _. sym (r.unmade v.role.made (omega arith));
            got = λ h. absurd (true≢false (sym h));
            known = λ h. absurd (true≢false (sym h));
            names = λ h. absurd (true≢false (sym h));
            silent = λ _. refl;
            blind = λ _. refl;
          })
          (λ i u ne at_u. r.each i u at_u);
    }

pub line_joins : (port : ℕ) (v : Line) (other : ℕ) (w : Line) → v.role.sends ≡ false
    → v.role.gets ≡ true → w.role.sends ≡ true → w.role.gets ≡ false
    → Merges InOrder port v other w (joined_line v w) spent_line
line_joins port v other w sends gets sends_w gets_w items views r at ne at_o =
    let b : Line = joined_line v w in
    let n : ℕ = w.role.number in
    let at_w = was_there views port other b w ne at_o in
    let mine = r.each port v at in
    let theirs = r.each other w at_w in
    let K : ℕ → Line → Type 0 = λ id u. Knows r.sent r.got u in
    let p = sum_joined weight views port other v w b spent_line at at_o in
    let q = letters_in_more v.known (n, w.put) in
    let t : letters_in (bare_senders w.known) ≡ 0 =
    ap (λ l. letters_in (bare_senders l)) (theirs.blind gets_w) in
    let c = r.counted in record {
      ends = joins role_of views r.ends port other v w b spent_line at at_w ne sends gets sends_w
          refl refl;
      sent = r.sent;
      got = r.got;
      all = r.all;
      unmade = r.unmade;
      counted = omega arith;
      each = each_joined K views port other b spent_line
          (record {
            put = λ h. absurd (true≢false (sym h ∙ sends));
            got = mine.got;
            known = λ h. sent_more r.sent v.known (n, w.put) (mine.known h)
                (theirs.put sends_w);
            names = λ h. ap (λ l. l ++ n ∷ []) (mine.names h)
                ∙ sym (numbers_more v.known (n, w.put));
            silent = mine.silent;
            blind = λ h. absurd (true≢false (sym gets ∙ h));
          })
          (record {
            put = λ h. absurd (true≢false (sym h));
            got = λ h. absurd (true≢false (sym h));
            known = λ h. absurd (true≢false (sym h));
            names = λ h. absurd (true≢false (sym h));
            silent = λ _. refl;
            blind = λ _. refl;
          })
          (λ i u ne_port ne_o at_u. r.each i u at_u);
    }
