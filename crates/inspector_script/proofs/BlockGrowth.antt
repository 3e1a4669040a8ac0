-- A port's block, and the lines before the first port, as they grow by one line more.
use Rattle.std.proofs.Common.{◌≡◌, suc, cond, ◌<◌, ◌≤◌, Bool, true, false, not, ◌&&◌}
use Rattle.std.proofs.Common.{◌||◌, List, [], ◌∷◌, ◌++◌, length, length-append, append-nil, get_or}
use Rattle.std.proofs.Common.{Option, Some, None, ◌∙◌, refl, sym, ap, arith}
use Rattle.std.specs.Prelude.{AllPairs, filter_map}
use Rattle.std.specs.List.{cons_option, list_any}
use Rattle.std.proofs.lemmas.Bool.{and_parts, false≢true, false_from_ne_true, ltb-true, lt-ltb}
use Rattle.std.proofs.lemmas.Option.{cond_some}
use Rattle.std.proofs.lemmas.List.{get_or_append_left}
use Rattle.std.proofs.lemmas.List.Elements.{filter_map-append}
use Rattle.std.proofs.lemmas.List.Folds.{list_any-append, list_any_at, list_any_none}
use Rattle.std.proofs.lemmas.List.Quantifiers.{all_pairs_push}
use Rattle.std.proofs.Math.Seq.{get_or-append_seam}
use Rattle.histories.specs.declared.log.AskWords.{AskWords}
use Rattle.script_lines.specs.declared.answering.OnLine.{OnLine}
use Rattle.script_lines.specs.declared.line.BlockLine.{BlockLine}
use Rattle.script_lines.specs.declared.line.BlockLine.TheVariants.{Open, On, End, Close}
use Rattle.inspector_script.specs.declared.block.Block.{Block}
use Rattle.inspector_script.specs.Numbers.{most_lines}
use Rattle.inspector_script.specs.Scripts.{line_count}
use Rattle.inspector_script.specs.ScriptFile.{block_after, has_room, may_end}
use Rattle.inspector_script.specs.Grammar.{block_of, end_in, is_close, is_end, on_in, open_in}

-- an item that is passed over
pub kept : {X Y : Type 0} (f : X → Option Y) (xs : List X) (x : X) (ys : List Y) → f x ≡ None →
    filter_map f xs ≡ ys → filter_map f (xs ++ x ∷ []) ≡ ys
kept f xs x ys off e =
    filter_map-append f xs (x ∷ []) ∙ ap (λ o. filter_map f xs ++ cons_option o []) off
    ∙ append-nil (filter_map f xs) ∙ e

-- an item that is taken
pub added : {X Y : Type 0} (f : X → Option Y) (xs : List X) (x : X) (y : Y) (ys : List Y) →
    f x ≡ Some y → filter_map f xs ≡ ys → filter_map f (xs ++ x ∷ []) ≡ ys ++ y ∷ []
added f xs x y ys on e =
    filter_map-append f xs (x ∷ []) ∙ ap (λ o. filter_map f xs ++ cons_option o []) on
    ∙ ap (λ zs. zs ++ y ∷ []) e

-- no `end` line stands behind `end close`
abbrev pub EndOnce : List BlockLine → Type 0
EndOnce ls = AllPairs (λ a b. is_close a ≡ true → is_end b ≡ false) ls

-- ---- one line more

last_false : (b : Bool) → (b || false) ≡ b
last_false true = refl
last_false false = refl

any_kept : (ls : List BlockLine) (l : BlockLine) → is_close l ≡ false →
    list_any is_close (ls ++ l ∷ []) ≡ list_any is_close ls
any_kept ls l off =
    list_any-append is_close ls (l ∷ []) ∙ ap (λ b. list_any is_close ls || (b || false)) off
    ∙ last_false (list_any is_close ls)

last_true : (b : Bool) → (b || true) ≡ true
last_true true = refl
last_true false = refl

-- the block with a line more
pub opens : (ls : List BlockLine) (words : AskWords) →
    block_of (ls ++ Open words ∷ [])
    ≡ record (block_of ls) { opening = filter_map open_in ls ++ words ∷ [] }
opens ls words =
    rw (
      added open_in ls (Open words) words (filter_map open_in ls) refl refl,
      kept on_in ls (Open words) (filter_map on_in ls) refl refl,
      kept end_in ls (Open words) (filter_map end_in ls) refl refl,
      any_kept ls (Open words) refl,
    ) refl

pub answers : (ls : List BlockLine) (on : OnLine) →
    block_of (ls ++ On on ∷ []) ≡ record (block_of ls) { lines = filter_map on_in ls ++ on ∷ [] }
answers ls on =
    rw (
      kept open_in ls (On on) (filter_map open_in ls) refl refl,
      added on_in ls (On on) on (filter_map on_in ls) refl refl,
      kept end_in ls (On on) (filter_map end_in ls) refl refl,
      any_kept ls (On on) refl,
    ) refl

pub ends : (ls : List BlockLine) (words : AskWords) →
    block_of (ls ++ End words ∷ [])
    ≡ record (block_of ls) { closing = filter_map end_in ls ++ words ∷ [] }
ends ls words =
    rw (
      kept open_in ls (End words) (filter_map open_in ls) refl refl,
      kept on_in ls (End words) (filter_map on_in ls) refl refl,
      added end_in ls (End words) words (filter_map end_in ls) refl refl,
      any_kept ls (End words) refl,
    ) refl

pub closes : (ls : List BlockLine) →
    block_of (ls ++ Close ∷ []) ≡ record (block_of ls) { closes = true }
closes ls =
    rw (
      kept open_in ls Close (filter_map open_in ls) refl refl,
      kept on_in ls Close (filter_map on_in ls) refl refl,
      kept end_in ls Close (filter_map end_in ls) refl refl,
      list_any-append is_close ls (Close ∷ []),
      last_true (list_any is_close ls),
    ) refl

-- ---- how many

later_pairs : (l : BlockLine) (ls : List BlockLine) → EndOnce (l ∷ ls) → EndOnce ls
later_pairs l ls h i j d less within = h (suc i) (suc j) d (omega arith) (omega arith)

close_ends : (l : BlockLine) → is_close l ≡ true → is_end l ≡ true
close_ends (Open words) is = absurd (false≢true is)
close_ends (On on) is = absurd (false≢true is)
close_ends (End words) is = refl
close_ends Close is = refl

none_behind : (ls : List BlockLine) → EndOnce (Close ∷ ls) → list_any is_close ls ≡ false
none_behind ls h =
    list_any_none is_close ls
    (λ k d less. false_from_ne_true (is_close (get_or ls k d))
    (λ is. false≢true (sym (h 0 (suc k) d (omega arith) (omega arith) refl)
    ∙ close_ends (get_or ls k d) is)))

-- a block has as many lines as were said
pub counted : (ls : List BlockLine) → EndOnce ls → line_count (block_of ls) ≡ length ls
counted [] h = refl
counted (Open words ∷ ls) h = omega (arith, counted ls (later_pairs (Open words) ls h))
counted (On on ∷ ls) h = omega (arith, counted ls (later_pairs (On on) ls h))
counted (End words ∷ ls) h = omega (arith, counted ls (later_pairs (End words) ls h))
counted (Close ∷ ls) h =
    let count = counted ls (later_pairs Close ls h) in
    let less = rw (none_behind ls h) at count in omega (arith, less)

-- an `end` line more
pairs_more : (ls : List BlockLine) (l : BlockLine) → EndOnce ls →
    (is_end l ≡ true → list_any is_close ls ≡ false) → EndOnce (ls ++ l ∷ [])
pairs_more ls l h alone =
    all_pairs_push (λ a b. is_close a ≡ true → is_end b ≡ false) ls l h
    (λ k d less is. false_from_ne_true (is_end l)
    (λ ends. false≢true (sym (alone ends) ∙ list_any_at is_close ls k d less is)))

not_true : (b : Bool) → not b ≡ true → b ≡ false
not_true true e = sym e
not_true false e = refl

-- what a line that is allowed makes of a block
pub record Grows (ls : List BlockLine) (l : BlockLine) (c : Block) : Type 0 where
  pub block : c ≡ block_of (ls ++ l ∷ [])
  pub few : length (ls ++ l ∷ []) ≤ most_lines
  pub once : EndOnce (ls ++ l ∷ [])

room_left : (ls : List BlockLine) (l : BlockLine) → EndOnce ls →
    has_room (block_of ls) ≡ true → length (ls ++ l ∷ []) ≤ most_lines
room_left ls l h room =
    let less : line_count (block_of ls) < most_lines =
    ltb-true (line_count (block_of ls)) most_lines room in
    omega (arith, less, counted ls h, length-append ls (l ∷ []))

pub block_grows : (ls : List BlockLine) (l : BlockLine) (c : Block) → EndOnce ls →
    block_after (block_of ls) l ≡ Some c → Grows ls l c
unfolding block_after
block_grows ls (Open words) c h e =
    let parts = cond_some (has_room (block_of ls)) _ c e in record {
      block = sym parts.1 ∙ sym (opens ls words);
      few = room_left ls (Open words) h parts.0;
      once = pairs_more ls (Open words) h (λ is. absurd (false≢true is));
    }
block_grows ls (On on) c h e =
    let parts = cond_some (has_room (block_of ls)) _ c e in record {
      block = sym parts.1 ∙ sym (answers ls on);
      few = room_left ls (On on) h parts.0;
      once = pairs_more ls (On on) h (λ is. absurd (false≢true is));
    }
block_grows ls (End words) c h e =
    let parts = cond_some (may_end (block_of ls)) _ c e in
    let may = and_parts (has_room (block_of ls)) (not (list_any is_close ls)) parts.0 in record {
      block = sym parts.1 ∙ sym (ends ls words);
      few = room_left ls (End words) h may.0;
      once = pairs_more ls (End words) h (λ is. not_true (list_any is_close ls) may.1);
    }
block_grows ls Close c h e =
    let parts = cond_some (may_end (block_of ls)) _ c e in
    let may = and_parts (has_room (block_of ls)) (not (list_any is_close ls)) parts.0 in record {
      block = sym parts.1 ∙ sym (closes ls);
      few = room_left ls Close h may.0;
      once = pairs_more ls Close h (λ is. not_true (list_any is_close ls) may.1);
    }

-- ---- the other way round

front_pairs : (xs ys : List BlockLine) → EndOnce (xs ++ ys) → EndOnce xs
front_pairs xs ys h i j d less within is =
    sym (ap is_end (get_or_append_left xs ys d j within))
    ∙ h i j d less (omega (arith, length-append xs ys))
    (ap is_close (get_or_append_left xs ys d i (omega arith)) ∙ is)

none_before : (done more : List BlockLine) (l : BlockLine) → EndOnce (done ++ l ∷ more) →
    is_end l ≡ true → list_any is_close done ≡ false
none_before done more l h ends =
    list_any_none is_close done
    (λ k d less. false_from_ne_true (is_close (get_or done k d))
    (λ is. false≢true (sym (h k (length done) d less
    (omega (arith, length-append done (l ∷ more)))
    (ap is_close (get_or_append_left done (l ∷ more) d k less) ∙ is))
    ∙ ap is_end (get_or-append_seam done l more d) ∙ ends)))

taken : {A : Type 0} (b : Bool) (x y : A) → b ≡ true → cond b x y ≡ x
taken true x y e = refl
taken false x y e = absurd (false≢true e)

room_for : (done more : List BlockLine) (l : BlockLine) →
    length (done ++ l ∷ more) ≤ most_lines → EndOnce (done ++ l ∷ more) →
    has_room (block_of done) ≡ true
room_for done more l few h =
    lt-ltb (line_count (block_of done)) most_lines
    (omega (
      arith,
      counted done (front_pairs done (l ∷ more) h),
      length-append done (l ∷ more),
    ))

both : (a b : Bool) → a ≡ true → b ≡ false → (a && not b) ≡ true
both true true e f = sym f
both true false e f = refl
both false b e f = absurd (false≢true e)

-- the block after a line of its part
pub block_step : (done more : List BlockLine) (l : BlockLine) →
    length (done ++ l ∷ more) ≤ most_lines → EndOnce (done ++ l ∷ more) →
    block_after (block_of done) l ≡ Some (block_of (done ++ l ∷ []))
unfolding block_after
block_step done more (Open words) few h =
    taken (has_room (block_of done)) _ _ (room_for done more (Open words) few h)
    ∙ ap (λ b. Some b) (sym (opens done words))
block_step done more (On on) few h =
    taken (has_room (block_of done)) _ _ (room_for done more (On on) few h)
    ∙ ap (λ b. Some b) (sym (answers done on))
block_step done more (End words) few h =
    taken (may_end (block_of done)) _ _
    (both (has_room (block_of done)) (list_any is_close done)
    (room_for done more (End words) few h) (none_before done more (End words) h refl))
    ∙ ap (λ b. Some b) (sym (ends done words))
block_step done more Close few h =
    taken (may_end (block_of done)) _ _
    (both (has_room (block_of done)) (list_any is_close done)
    (room_for done more Close few h) (none_before done more Close h refl))
    ∙ ap (λ b. Some b) (sym (closes done))
