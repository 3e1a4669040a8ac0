-- The text of a message, as it is read from its own bytes.
use Rattle.std.proofs.Common.{◌≡◌, ℕ, List, [], length, min, refl, sym, ap, ◌∙◌, append-nil}
use Rattle.std.proofs.Common.{Option, Some}
use Rattle.std.proofs.lemmas.Option.{same_Some}
use Rattle.netlink_codec.specs.Messages.{NetlinkMessage, FitsHeader, Front, message_with}
use Rattle.netlink_codec.specs.Messages.{message_text, pad}

abbrev pub framed : NetlinkMessage → ℕ → Option (NetlinkMessage × ℕ)
framed message used = Some (message, used)

same-message : (message other : NetlinkMessage) (used more : ℕ) →
    framed message used ≡ framed other more → message ≡ other
same-message message other used more same =
    ap (λ (f : NetlinkMessage × ℕ). f.0) (same_Some (message, used) (other, more) same)

-- the text of a message stands in front of itself
pub stands_alone : (bytes : List ℕ) (kind flags sequence port : ℕ) (body : List ℕ) →
    FitsHeader (message_with kind flags sequence port body) →
    bytes ≡ message_text kind flags sequence port body →
    Front bytes (message_with kind flags sequence port body)
    (min (pad (length (message_text kind flags sequence port body))) (length bytes))
stands_alone bytes kind flags sequence port body fits is = record {
  fits = fits;
  text = refl;
  behind = ([], is ∙ sym (append-nil (message_text kind flags sequence port body)));
  uses = refl;
}

-- so it is the message that is read
pub is_read : (bytes : List ℕ) (kind flags sequence port : ℕ) (body : List ℕ)
    (message : NetlinkMessage) (used : ℕ) →
    ((m : NetlinkMessage) (n : ℕ) → Front bytes m n → framed message used ≡ framed m n) →
    FitsHeader (message_with kind flags sequence port body) →
    bytes ≡ message_text kind flags sequence port body →
    message ≡ message_with kind flags sequence port body
is_read bytes kind flags sequence port body message used only fits is =
    same-message message _ used _
    (only _ _ (stands_alone bytes kind flags sequence port body fits is))
