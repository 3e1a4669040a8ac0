-- What requests come to, and what they take.
use Rattle.std.proofs.Common.{◌≡◌, ℕ, ◌+◌, List, [], ◌∷◌, length, drop, Option, Some, None}
use Rattle.std.proofs.Common.{true, false, cond, refl, sym, ap, ◌∙◌}
use Rattle.std.specs.Prelude.{not}
use Rattle.std.specs.Map.{lookup, remove_entry}
use Rattle.std.proofs.lemmas.Bool.{eq-eqb}
use Rattle.packet_entry.specs.declared.packet.Card.{Card}
use Rattle.nfqa_headers.specs.declared.verdict_header.Head.{Head}
use Rattle.nfqa_msgs.specs.Numbers.{eperm, einval}
use Rattle.queue_core.specs.Ids.{is_id}
use Rattle.queue_core.specs.Decision.{Edit, IsVerdict, is_verdict}
use Rattle.queue_core.specs.State.{Bound}
use Rattle.queue_core.specs.Share.{share}
use Rattle.queue_core.specs.Step.{Ruling, Refused, Allowed, refusal, verdict, verdict_under}
use Rattle.queue_core.specs.Step.{carried_out, card_under, without, without_oldest, shared_out}

-- ---- verdicts and batches that aren't refused

allowed_here : (b : Bound) (port : ℕ) (h : Head) → b.port ≡ port → IsVerdict h.verdict →
    refusal (Some b) port (Some h) ≡ Allowed b h
allowed_here b port h same known =
    ap (λ t. cond (not t) (Refused eperm)
    (cond (not (is_verdict h.verdict)) (Refused einval) (Allowed b h))) (eq-eqb b.port port same)
    ∙ ap (λ t. cond (not t) (Refused einval) (Allowed b h)) known

pub allowed_is : (q : Option Bound) (port : ℕ) (head : Option Head) (h : Head) (b : Bound) →
    q ≡ Some b → b.port ≡ port → head ≡ Some h → IsVerdict h.verdict →
    refusal q port head ≡ Allowed b h
allowed_is q port head h b bound same given known =
    ap (λ (p : Option Bound). refusal p port head) bound
    ∙ ap (λ (g : Option Head). refusal (Some b) port g) given ∙ allowed_here b port h same known

-- where nothing is found, nothing is taken out
none_taken : (id : ℕ) (ws : List (ℕ × Card)) → lookup (is_id id) ws ≡ None →
    remove_entry (is_id id) ws ≡ ws
none_taken id [] none = refl
none_taken id (w ∷ ws) none =
    (elim (is_id id w.0) as (λ t. cond t (Some w.1) (lookup (is_id id) ws) ≡ None →
    cond t ws (w ∷ remove_entry (is_id id) ws) ≡ w ∷ ws) [
      | true ↦ λ h. absurd (let wrong : Some w.1 ≡ None = h in cc)
      | false ↦ λ h. ap (λ vs. w ∷ vs) (none_taken id ws h)
    ]) none

carried : (b : Bound) (h : Head) (edit : Edit) (found : Option Card) → card_under b h.id ≡ found →
    (carried_out b h edit found).state ≡ Some (without b h.id)
carried b h edit None is =
    ap (λ (ws : List (ℕ × Card)). Some (record b { waiting = ws }))
    (sym (none_taken h.id b.waiting is))
carried b h edit (Some card) is = refl

-- a verdict leaves the queue without what waits under its id, if anything does
pub verdict_leaves : (q : Option Bound) (port : ℕ) (head : Option Head) (h : Head) (b : Bound) →
    refusal q port head ≡ Allowed b h → (edit : Edit) →
    (verdict q port head edit).state ≡ Some (without b h.id)
verdict_leaves q port head h b is edit =
    ap (λ (r : Ruling). (verdict_under r q edit).state) is
    ∙ carried b h edit (card_under b h.id) refl

shared : (b : Bound) (h : Head) (mark priority : Option ℕ) (ws : List (ℕ × Card)) →
    (shared_out b h mark priority ws).state ≡ Some (without_oldest b (length ws))
shared b h mark priority [] = refl
shared b h mark priority (w ∷ ws) = refl

-- ---- a share

-- so many were taken of the share, and so many are left of all
pub record IsShared (old ws : List (ℕ × Card)) (maximum taken : ℕ) : Type 0 where
  pub count : taken + length (share ws maximum) ≡ length (share old maximum)
  pub others : drop (length (share ws maximum)) ws ≡ drop (length (share old maximum)) old
  pub left : taken + length ws ≡ length old
