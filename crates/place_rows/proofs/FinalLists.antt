-- All places that ended: their lists are all rows' own, legal and sound.
use Rattle.std.proofs.Common.{◌≡◌, ◌<◌, ◌+◌, ℕ, List, [], ◌∷◌, ◌++◌, length, refl, sym}
use Rattle.std.proofs.Common.{◌∙◌, subst, arith}
use Rattle.std.specs.Prelude.{slice_get, Option, Some, None, sum_by, IfSome, flat_map}
use Rattle.std.specs.List.{range_with_len, AllZip}
use Rattle.std.proofs.lemmas.List.Sums.{sum_by-cons, sum_by-append}
use Rattle.std.proofs.Math.Nat.{mod-lt}
use Rattle.packet_entry.specs.declared.packet.Card.{Card}
use Rattle.turn_lock.specs.Views.{HasSeenOwn}
use Rattle.hook_chain.specs.Rules.{RuleTables}
use Rattle.histories.specs.declared.entry.Entry.{Entry}
use Rattle.histories.specs.declared.histories.Lost.{Lost}
use Rattle.histories.specs.Grouping.{IsGrouped}
use Rattle.histories.specs.History.{AreLegal, history, IsLegal}
use Rattle.histories.specs.Journeys.{AreSound, IsSoundBut}
use Rattle.histories.specs.Moves.{Move, moves, moves_after}
use Rattle.packet_moves.specs.declared.setting.Setting.{Setting}
use Rattle.place_rows.specs.declared.ending.PortReceiver.{PortReceiver}
use Rattle.place_rows.specs.Lists.{Every, AllFrom, flat}
use Rattle.place_rows.specs.Rows.{Known}
use Rattle.place_rows.specs.Shares.{own_moves, all_moves, IsBalanced}
use Rattle.place_rows.specs.Joining.{AllJoined}
use Rattle.place_rows.specs.Ending.{IsListAt, IsListOf, Holder, rows_of, all_fed, all_lost}
use Rattle.place_rows.specs.Ending.{AreBalanced}
use Rattle.place_rows.specs.Hearing.{HearsAs, IsHeard}
use Rattle.place_rows.specs.Ended.{AreAllEntries}
use Rattle.place_rows.proofs.Lists.{every_mapped}
use Rattle.place_rows.proofs.ItemSums.{sum_flat, moves_longer, moves_long}
use Rattle.place_rows.proofs.RowBalance.{both_sound, same_sound}
use Rattle.place_rows.proofs.RowJoins.{all_begin, all_own}
use Rattle.place_rows.proofs.PlaceLists.{legal_from, flat_moves}
use Rattle.place_rows.proofs.PlaceEnds.{here_all}
use Rattle.place_rows.proofs.RowSums.{all_told}
use Rattle.place_rows.proofs.HeardNotices.{all_sent, all_hear}

-- ---- the lists, as all rows know them

list_of : (places k : ℕ) (vs us : List Known) (rows : List (List Known)) (list : List Entry) →
    AllJoined rows vs us → IsListAt places us k list → IsListOf places (vs ∷ rows) k list
list_of places k vs us rows list joined is =
    record {
      begins = all_begin k vs us rows is.all list joined is.at is.begins;
      once = all_own k vs us rows is.all (range_with_len 0 (length list)) joined is.at is.own;
      here = is.here;
    }

pub lists_of : (places n : ℕ) (vs us : List Known) (rows : List (List Known)) (lists : List (List
    Entry)) →
    AllJoined rows vs us → AllFrom (IsListAt places us) n lists →
    AllFrom (IsListOf places (vs ∷ rows)) n lists
lists_of places n vs us rows [] joined all = tt
lists_of places n vs us rows (l ∷ ls) joined all =
    (list_of places n vs us rows l joined all.0, lists_of places (n + 1) vs us rows ls joined all.1)

legal_each : (places n : ℕ) (us : List Known) (lists : List (List Entry)) →
    AllFrom (IsListAt places us) n lists → Every AreLegal lists
legal_each places n us [] all = tt
legal_each places n us (l ∷ ls) all = (all.0.legal, legal_each places (n + 1) us ls all.1)

-- ---- all holders together

all_sound : (s : Setting) (hs : List Holder) →
    IsSoundBut s.tables s.key [] [] [] [] → AreBalanced s hs →
    IsSoundBut s.tables s.key [] (all_fed hs) (flat_map all_moves (rows_of hs)) (all_lost hs)
all_sound s [] nothing all = nothing
all_sound s (h ∷ hs) nothing all =
    both_sound s.tables s.key h.fed (all_fed hs) (all_moves h.known)
    (flat_map all_moves (rows_of hs)) h.lost (all_lost hs) all.0.sound (all_sound s hs nothing
    all.1)

placed_one : (s : Setting) (fed : List Card) (known : List Known) (lost : List Lost) (k : ℕ) →
    IsBalanced s fed known lost → IfSome (slice_get known k) HasSeenOwn
placed_one s fed known lost k is = inner (slice_get known k) (is.placed k)
  where
    inner : (o : Option Known) → ((v : Known) → o ≡ Some v → HasSeenOwn v) → IfSome o HasSeenOwn
    inner None h = tt
    inner (Some v) h = h v refl

placed_all : (s : Setting) (k : ℕ) (hs : List Holder) → AreBalanced s hs →
    Every (λ ws. IfSome (slice_get ws k) HasSeenOwn) (rows_of hs)
placed_all s k [] all = tt
placed_all s k (h ∷ hs) all = (placed_one s h.fed h.known h.lost k all.0, placed_all s k hs all.1)

moves_grow : (es fs : List Entry) → (more : List Move) × (moves (es ++ fs) ≡ moves es ++ more)
moves_grow es fs = (moves_after es fs, moves_longer [] es fs)

flat_all : (f : Move → ℕ) (rows : List (List Known)) → sum_by f (flat_map all_moves rows)
    ≡ sum_by (λ (ws : List Known). sum_by (λ (v : Known). sum_by f (own_moves v)) ws) rows
flat_all f [] = refl
flat_all f (ws ∷ rows) =
    omega (
      arith,
      sum_by-append f (all_moves ws) (flat_map all_moves rows),
      sum_flat f own_moves ws,
      flat_all f rows,
      sum_by-cons (λ (xs : List Known). sum_by (λ (v : Known). sum_by f (own_moves v)) xs) ws rows,
    )

-- ---- what is left

-- what is known of soundness
pub record Laws : Type 0 where
  pub nothing : (tables : RuleTables) (key : ℕ) → IsSoundBut tables key [] [] [] []
  pub of_each_queue : (tables : RuleTables) (key : ℕ) (entered : List Card) (es gs : List Entry)
      (lost : List Lost) → ((queue : ℕ) → history queue gs ≡ history queue es) →
      AreSound tables key entered es lost → AreSound tables key entered gs lost

module _ (laws : Laws) (s : Setting) (places : ℕ) (first : Holder) (others : List Holder)
    (us : List Known) (lists : List (List Entry)) (es gathered : List Entry)
    (balanced : AreBalanced s (first ∷ others))
    (joined : AllJoined (rows_of others) first.known us) (us_long : length us ≡ places)
    (long : length lists ≡ places) (all : AllFrom (IsListAt places us) 0 lists)
    (same : (queue : ℕ) → history queue gathered ≡ history queue (flat lists))
    (grouped : IsGrouped gathered es) where
  rows_long : Every (λ (ws : List Known). length ws ≡ length lists) (rows_of (first ∷ others))
  rows_long = (
    omega (arith, long, us_long, joined.as_many),
    every_mapped (λ (ws : List Known). length ws ≡ length first.known)
        (λ (ws : List Known). length ws ≡ length lists) (rows_of others)
        (λ ws is. omega (arith, is, long, us_long, joined.as_many)) joined.rows_are,
  )

  each_list : AllFrom (IsListOf places (rows_of (first ∷ others))) 0 lists
  each_list = lists_of places 0 first.known us (rows_of others) lists joined all

  placed : (k : ℕ) → Every (λ ws. IfSome (slice_get ws k) HasSeenOwn) (rows_of (first ∷ others))
  placed k = placed_all s k (first ∷ others) balanced

  same_moves : (f : Move → ℕ) → sum_by f (moves (flat lists))
      ≡ sum_by f (flat_map all_moves (rows_of (first ∷ others)))
  same_moves f =
      omega (
        arith,
        flat_moves f places 0 lists (here_all places us 0 lists all),
        all_told moves moves_grow (moves_long []) f places lists (rows_of (first ∷ others)) placed
            rows_long each_list,
        flat_all f (rows_of (first ∷ others)),
      )

  all_grouped : IsGrouped (flat lists) es
  all_grouped = record {
    ascend = grouped.ascend;
    same = λ queue. grouped.same queue ∙ same queue;
  }

  sound_together : AreSound s.tables s.key (all_fed (first ∷ others)) es (all_lost (first ∷ others))
  sound_together =
      laws.of_each_queue s.tables s.key (all_fed (first ∷ others)) (flat lists) es
      (all_lost (first ∷ others)) all_grouped.same
      (same_sound s.tables s.key [] (all_fed (first ∷ others))
      (flat_map all_moves (rows_of (first ∷ others))) (moves (flat lists)) (all_lost (first ∷
      others))
      same_moves
      (all_sound s (first ∷ others) (laws.nothing s.tables s.key) balanced))

  pub all_left : (olds news : List PortReceiver) → 0 < places →
      AllZip (HearsAs places 0 lists) olds news → Every IsHeard news →
      AreAllEntries s places (first ∷ others) olds es
  all_left olds news some zip told = record {
    lists = lists;
    as_many = long;
    each = each_list;
    grouped = all_grouped;
    legal = λ queue. subst IsLegal (sym (all_grouped.same queue))
        (legal_from places 0 lists (here_all places us 0 lists all)
        (legal_each places 0 us lists all) queue);
    sound = sound_together;
    heard = all_hear places lists es (rows_of (first ∷ others)) olds news
        (λ queue. mod-lt queue some) some long (here_all places us 0 lists all) all_grouped.same
        (λ port. all_sent port places lists (rows_of (first ∷ others)) placed rows_long each_list)
        zip told;
  }
