use Rattle.std.proofs.Common.{◌≡◌, ◌≢◌, ◌<◌, ◌≤◌, ◌∷◌, List, ℕ, length, Option, sym, ap, ◌∙◌, subst}
use Rattle.std.proofs.Common.{Bor, arith, refl}
use Rattle.std.specs.Prelude.{option_map}
use Rattle.packet_entry.specs.Numbers.{longest_payload}
use Rattle.netlink_codec.specs.Attributes.{Attribute, Holds, attribute_of, attributes}
use Rattle.nfqa_headers.specs.Numbers.{priority_kind}
use Rattle.nfqa_headers.specs.AttributeReading.{content_at, least_content, later, last_content}
use Rattle.nfqa_headers.proofs.LastContent.{IfSome-seen, last_content-fits, last_content-long}
use Rattle.nfqa_headers.proofs.LastContent.{later-nothing, walked-other}
use Rattle.nfqa_headers.proofs.LastContents.{none-there, put-length, put-walked}
use Rattle.nfqa_headers.proofs.attribute_reading.last_contents.Goals as goal
use Rattle.nfqa_headers.proofs.attribute_reading.last_contents.Goals.{In-Some}

-- with this attribute as the first of those to come, the row says what it said
said : (c : In-Some) (kind : ℕ) → kind ≤ priority_kind →
    later (last_content kind (attribute_of c.in-Some.attr ∷ c.next.new.self))
    (option_map (λ content. content.now) (content_at c.loop-attr.last kind))
    ≡ last_content kind (attributes c.args.row.now)
said c kind known =
    let so_far : Option (List ℕ) =
    option_map (λ content. content.now) (content_at c.loop-attr.last kind) in
    ap (λ (row : List Attribute). later (last_content kind row) so_far)
    (sym c.in-Some.ensures.steps)
    ∙ c.loop-attr.invariant.1 kind known

pub loop-attr-init : goal.loop-attr-init
loop-attr-init c = (
  refl,
  λ kind known.
      let items : List Attribute = c.into_iter-attr-iterator.result in
      ap (λ o. later (last_content kind items) (option_map (λ (x : Bor (List ℕ)). x.now) o))
      (none-there 22 kind)
      ∙ later-nothing (last_content kind items)
      ∙ ap (last_content kind)
      (c.into_iter-attr-iterator.ensures.into_iter_gives ∙ c.walk_attrs-attr-items.ensures.walk),
)

pub loop-attr-preserved-then-kind-lt-KINDS : goal.loop-attr-preserved-then-kind-lt-KINDS
loop-attr-preserved-then-kind-lt-KINDS c =
    let within : c.in-Some.attr.kind < length c.loop-attr.last =
    subst (λ n. c.in-Some.attr.kind < n) (sym c.loop-attr.invariant.0) c.if-kind-lt-KINDS.true in (
      put-length c.loop-attr.last _ _ ∙ c.loop-attr.invariant.0,
      λ kind known. put-walked (λ content. content.now) c.loop-attr.last
          (attribute_of c.in-Some.attr) c.in-Some.attr.body c.next.new.self kind refl within
          ∙ said (goal.at.loop-attr-preserved-then-kind-lt-KINDS c).In-Some kind known,
    )

pub loop-attr-preserved : goal.loop-attr-preserved
loop-attr-preserved c = (
  c.loop-attr.invariant.0,
  λ kind known.
      let other : c.in-Some.attr.kind ≢ kind =
      λ same. omega (arith, same, known, c.if-kind-lt-KINDS.false) in
      sym (walked-other kind (attribute_of c.in-Some.attr) c.next.new.self _ other)
      ∙ said (goal.at.loop-attr-preserved c).In-Some kind known,
)

pub returns-clause-value : goal.returns-clause-value
returns-clause-value c kind known =
    let so_far : Option (List ℕ) =
    option_map (λ content. content.now) (content_at c.loop-attr.last kind) in
    ap (λ (row : List Attribute). later (last_content kind row) so_far)
    (sym c.in-None.ensures.steps.0) ∙ c.loop-attr.invariant.1 kind known

pub returns-clause-limit : goal.returns-clause-limit
returns-clause-limit c kind known =
    let P : List ℕ → Type 0 = λ content. length content ≤ longest_payload in
    let held : Holds c.args.row.now (attributes c.args.row.now) =
    subst (λ (row : List Attribute). Holds c.args.row.now row) c.walk_attrs-attr-items.ensures.walk
    c.walk_attrs-attr-items.ensures.held in
    IfSome-seen (λ x. x.now) P (content_at c.loop-attr.last kind)
    (last_content kind (attributes c.args.row.now)) (returns-clause-value c kind known)
    (last_content-fits kind (attributes c.args.row.now) c.args.row.now held)

pub returns-clause-long : goal.returns-clause-long
returns-clause-long c number kind whole known =
    let P : List ℕ → Type 0 = λ content. least_content number kind ≤ length content in
    IfSome-seen (λ x. x.now) P (content_at c.loop-attr.last kind)
    (last_content kind (attributes c.args.row.now)) (returns-clause-value c kind known)
    (last_content-long number kind (attributes c.args.row.now) whole)
