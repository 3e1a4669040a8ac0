-- The queue of a mailbox: what each end knows of it, its rule, and what each step makes of it.
use Rattle.std.specs.Prelude.{◌≡◌, ℕ, ◌+◌, ◌≤◌, true, false, List, [], ◌∷◌, ◌++◌, length, sum_by}
use Rattle.packet_entry.specs.declared.letter.Letter.{Letter}
use Rattle.table_seats.specs.Seats.{Each}
use Rattle.mailbox.specs.declared.view.Mail.{Mail}
use Rattle.mailbox.specs.declared.view.Role.{Role}
use Rattle.mailbox.specs.declared.view.Line.{Line}
use Rattle.mailbox.specs.declared.view.Post.{Post}
use Rattle.mailbox.specs.Roles.{In, HasAll, AreDistinct, Manned, first_role, sending_role}
use Rattle.mailbox.specs.Roles.{receiving_role, spent_role, parent_role, child_role, joined_role}
use Rattle.mailbox.specs.Views.{letters_of, mails_of, bare_senders, numbers, letters_in}
use Rattle.mailbox.specs.Views.{Prefixes, TimedPrefixes, Wholes, AreOf, AreMade, AccountFor}

-- an end that has put in and taken out nothing
abbrev pub line_of : Role → Line
line_of role = record { role = role; put = []; got = []; known = [] }

abbrev pub first_line : Line
first_line = line_of first_role

abbrev pub sending_line : Line
sending_line = line_of sending_role

abbrev pub receiving_line : Line
receiving_line = line_of receiving_role

abbrev pub spent_line : Line
spent_line = line_of spent_role

abbrev pub parent_line : Line → Line
parent_line v = record v { role = parent_role v.role }

abbrev pub child_line : Line → Line
child_line v = line_of (child_role v.role)

-- a letter was put in
abbrev pub put_line : Line → Mail → Line
put_line v mail = record v { put = v.put ++ mail ∷ [] }

-- a letter was taken out
abbrev pub got_line : Line → Post → Line
got_line v post = record v { got = v.got ++ post ∷ [] }

-- a sender was joined into the receiver
abbrev pub joined_line : Line → Line → Line
joined_line v w =
    record v {
      role = joined_role v.role w.role;
      known = v.known ++ (w.role.number, w.put) ∷ [];
    }

-- the senders joined into an end, each with the letters that it had put in
abbrev pub known_letters : Line → List (ℕ × List Letter)
known_letters v = bare_senders v.known

-- and the numbers of these senders
abbrev pub known_numbers : Line → List ℕ
known_numbers v = numbers (known_letters v)

-- how many letters an end knows to have been put in: its own, and those of senders joined into it
abbrev pub weight : Line → ℕ
weight v = length v.put + letters_in (known_letters v)

-- of each sender, the letters known with their times are those that it sent
abbrev pub AreSent : (ℕ → List Mail) → List (ℕ × List Mail) → Type 0
AreSent sent [] = Unit {0}
AreSent sent (s ∷ ss) = (s.1 ≡ sent s.0) × AreSent sent ss

-- what an end knows of the letters: a sender of what it put in, the receiver of all that was taken
-- out and of what those put in that were joined
pub record Knows (sent : ℕ → List Mail) (taken : List Post) (v : Line) : Type 0 where
  pub put : v.role.sends ≡ true → v.put ≡ sent v.role.number
  pub got : v.role.gets ≡ true → v.got ≡ taken
  pub known : v.role.gets ≡ true → AreSent sent v.known
  pub names : v.role.gets ≡ true → v.role.joined ≡ known_numbers v
  pub silent : v.role.sends ≡ false → v.put ≡ []
  pub blind : v.role.gets ≡ false → v.known ≡ []

-- The rule of the queue, of the letters in it and of what all ends know
pub record InOrder (items : List Post) (views : List Line) : Type 0 where
  pub ends : Manned (λ (v : Line). v.role) views
  -- what each sender put in, by its number
  pub sent : ℕ → List Mail
  -- what was taken out
  pub got : List Post
  -- of each sender, what was taken out and then what is still inside is what it put in
  pub all : (k : ℕ) → mails_of k (got ++ items) ≡ sent k
  pub unmade : (k : ℕ) → ends.made ≤ k → sent k ≡ []
  pub counted : sum_by weight views ≡ length got + length items
  pub each : Each (λ id v. Knows sent got v) views

-- what the receiver is told of the senders joined into it
pub record IsTold (v : Line) : Type 0 where
  pub prefix : Prefixes v.got (known_letters v)
  pub in_time : TimedPrefixes v.got v.known
  pub senders : HasAll v.role.made (known_numbers v) → AreOf v.got (known_numbers v)
  pub whole : HasAll v.role.made (known_numbers v) → letters_in (known_letters v) ≡ length v.got
      → Wholes v.got (known_letters v)
  pub once : AreDistinct (known_numbers v)
  pub made : AreMade v.role.made (known_numbers v)
  pub beyond : In 0 (known_numbers v) → (k : ℕ) → v.role.made ≤ k → letters_of k v.got ≡ []
  pub inside : HasAll v.role.made (known_numbers v) → AccountFor v.got (known_letters v)
