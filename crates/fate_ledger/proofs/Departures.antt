-- What leaves, one packet after the other.
use Rattle.std.proofs.Common.{◌≡◌, ℕ, suc, ◌∷◌, Option, None}
use Rattle.std.proofs.Common.{drop, sym, ap, ◌∙◌}
use Rattle.packet_entry.specs.declared.packet.Card.{Card}
use Rattle.packet_entry.specs.Card.{edited}
use Rattle.fate_ledger.specs.declared.happening.Happening.{Happening}
use Rattle.fate_ledger.specs.declared.happening.How.{How}
use Rattle.fate_ledger.specs.Following.{first_leave, happening, Kept, noted, noted_all, Waiting}

-- one of those that leave, and then one fewer
pub one_left : (n m : ℕ) (ws rest : Waiting) (w : ℕ × Card) (how : How)
    (mark priority : Option ℕ) →
    n ≡ suc m → ws ≡ w ∷ rest →
    (drop n ws ≡ drop m rest)
    × (first_leave how mark priority n ws
    ≡ happening how (edited w.1 mark None priority) ∷ first_leave how mark priority m rest)
one_left n m ws rest w how mark priority count front = (
  ap (λ k. drop k ws) count ∙ ap (drop (suc m)) front,
  ap (λ k. first_leave how mark priority k ws) count
      ∙ ap (first_leave how mark priority (suc m)) front,
)

-- it is noted, and the others are still to be noted
pub note_on : (n m : ℕ) (ws rest : Waiting) (w : ℕ × Card) (how : How)
    (mark priority : Option ℕ)
    (h : Happening) (old new : Kept) → n ≡ suc m → ws ≡ w ∷ rest →
    h ≡ happening how (edited w.1 mark None priority) → new ≡ noted h old →
    noted_all (first_leave how mark priority n ws) old
    ≡ noted_all (first_leave how mark priority m rest) new
note_on n m ws rest w how mark priority h old new count front is grown =
    ap (λ hs. noted_all hs old) (one_left n m ws rest w how mark priority count front).1
    ∙ ap (noted_all (first_leave how mark priority m rest)) (sym (grown ∙ ap (λ g. noted g old) is))
