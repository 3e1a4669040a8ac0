-- How what senders sent goes on with a place's list.
use Rattle.std.specs.Prelude.{◌≡◌, ℕ, List, ◌++◌, Option}
use Rattle.mailbox.specs.Views.{SenderView}
use Rattle.total_order.specs.Orders.{untimed}
use Rattle.histories.specs.declared.entry.Entry.{Entry}
use Rattle.locked_place.specs.Times.{all_at, AreMailed}

-- Each sender has sent what the list says, with its times, and does so afterwards, where what was
-- appended to the list has this time.
abbrev pub MailsGoOn : ℕ → List Entry → (ℕ → Option SenderView) → List Entry →
    (ℕ → Option SenderView) → Type 0
MailsGoOn time before olds after news =
    (xs : List (Entry × ℕ)) (more : List Entry) → untimed xs ≡ before → after ≡ before ++ more →
    AreMailed xs olds → AreMailed (xs ++ all_at time more) news
