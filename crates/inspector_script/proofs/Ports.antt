-- A script's bounds, as its ports come.
use Rattle.std.proofs.Common.{◌≡◌, ℕ, ◌+◌, ◌≤◌, ◌<◌, true, ltb, not, List, [], ◌∷◌}
use Rattle.std.proofs.Common.{◌++◌, length, length-append, append-nil, get_or, Option, Some, None}
use Rattle.std.proofs.Common.{All, ◌∙◌, sym, subst, ap, arith, eq-eqb}
use Rattle.std.specs.Prelude.{◌≢◌, AllPairs, IfSome, unwrap_or, option_to_list}
use Rattle.std.specs.List.{list_any}
use Rattle.std.proofs.lemmas.Bool.{and_parts, false≢true, ltb-true}
use Rattle.std.proofs.lemmas.Option.{none-some, same_Some}
use Rattle.std.proofs.lemmas.List.Elements.{All-nil, All-push}
use Rattle.std.proofs.lemmas.List.Folds.{list_any_at}
use Rattle.std.proofs.lemmas.List.Quantifiers.{all_pairs_push}
use Rattle.inspector_script.specs.declared.block.Block.{Block}
use Rattle.script_lines.specs.Numbers.{largest_mail}
use Rattle.inspector_script.specs.Numbers.{default_mail, most_ports}
use Rattle.script_lines.specs.Limits.{IsOnLine, IsWords}
use Rattle.inspector_script.specs.Scripts.{IsBlock, IsScript, held}
use Rattle.inspector_script.specs.ScriptFile.{IsSound, Place, is_port, may_begin, last_count}
use Rattle.inspector_script.specs.ScriptFile.{shut, without_lines}

-- a port that isn't among those before differs from each
pub new_port : (ports : List ℕ) (port : ℕ) → AllPairs (λ a b. a ≢ b) ports →
    not (list_any (is_port port) ports) ≡ true → AllPairs (λ a b. a ≢ b) (ports ++ port ∷ [])
new_port ports port differ new =
    all_pairs_push (λ a b. a ≢ b) ports port differ
    (λ k d less same.
    let known : list_any (is_port port) ports ≡ true =
    list_any_at (is_port port) ports k d less (eq-eqb (get_or ports k d) port same) in
    false≢true (ap not (sym known) ∙ new))

no_line : IsBlock without_lines
no_line =
    record {
      lines = omega arith;
      opening_asks = All-nil IsWords;
      on_lines = All-nil IsOnLine;
      closing_asks = All-nil IsWords;
    }

shut_blocks : (blocks : List Block) (last : Option Block) → All IsBlock blocks →
    IfSome last IsBlock → All IsBlock (blocks ++ option_to_list last)
shut_blocks blocks None each fits = rw (append-nil blocks) each
shut_blocks blocks (Some b) each fits = All-push IsBlock blocks b each fits

shut_count : (blocks : List Block) (last : Option Block) →
    length (blocks ++ option_to_list last) ≡ length blocks + last_count last
shut_count blocks None = length-append blocks []
shut_count blocks (Some b) = length-append blocks (b ∷ [])

begun : (p : Place) (port : ℕ) → IsSound p → 1 ≤ port → may_begin p port ≡ true →
    IsSound (record (shut p) { ports = p.ports ++ port ∷ []; last = Some without_lines })
begun p port s some may =
    let parts = and_parts (ltb (length p.ports) most_ports) _ may in
    let room : length p.ports < most_ports = ltb-true (length p.ports) most_ports parts.0 in
    let ports : length (p.ports ++ port ∷ []) ≡ length p.ports + 1 =
    length-append p.ports (port ∷ []) in
    let blocks : length (p.blocks ++ option_to_list p.last) ≡ length p.ports =
    shut_count p.blocks p.last ∙ s.blocks in
    record {
      mail = s.mail;
      downs = s.downs;
      ports = omega (arith, ports, room);
      port_numbers = All-push (λ q. 1 ≤ q) p.ports port s.port_numbers some;
      ports_differ = new_port p.ports port s.ports_differ parts.1;
      blocks = omega (arith, ports, blocks);
      each = shut_blocks p.blocks p.last s.each s.last;
      last = no_line;
    }

-- the block of a new port begins
pub port_begins : (p q : Place) (port : ℕ) (ports : List ℕ) (b : Block) → IsSound p → 1 ≤ port →
    may_begin p port ≡ true → Some (shut p) ≡ Some q → ports ≡ q.ports ++ port ∷ [] →
    b ≡ without_lines →
    IsSound (record {
      mail = q.mail;
      pace = q.pace;
      key = q.key;
      downs = q.downs;
      ports = ports;
      blocks = q.blocks;
      last = Some b;
    })
port_begins p q port ports b s some may e ports_are empty =
    subst (λ (r : Place). ports ≡ r.ports ++ port ∷ [] → IsSound (record {
      mail = r.mail;
      pace = r.pace;
      key = r.key;
      downs = r.downs;
      ports = ports;
      blocks = r.blocks;
      last = Some b;
    })) (same_Some (shut p) q e)
    (λ are. subst (λ (qs : List ℕ). IsSound (record (shut p) { ports = qs; last = Some b }))
    (sym are)
    (subst (λ (c : Block). IsSound
    (record (shut p) { ports = p.ports ++ port ∷ []; last = Some c })) (sym empty)
    (begun p port s some may))) ports_are

mail_fits : (mail : Option ℕ) → IfSome mail (λ m. (1 ≤ m) × (m ≤ largest_mail)) →
    (1 ≤ unwrap_or mail default_mail) × (unwrap_or mail default_mail ≤ largest_mail)
mail_fits None h = (omega arith, omega arith)
mail_fits (Some m) h = h

mail_kept : (o : Option ℕ) (mail : ℕ) → IfSome o (λ m. (1 ≤ m) × (m ≤ largest_mail)) →
    mail ≡ unwrap_or o default_mail → (1 ≤ mail) × (mail ≤ largest_mail)
mail_kept o mail h e =
    subst (λ m. (1 ≤ m) × (m ≤ largest_mail)) (sym e) (mail_fits o h)

all_fit : (blocks all : List Block) (o : Option Block) (b : Block) → All IsBlock blocks →
    IfSome o IsBlock → o ≡ Some b → all ≡ blocks ++ b ∷ [] → All IsBlock all
all_fit blocks all None b each h some e = absurd (none-some b some)
all_fit blocks all (Some c) b each h some e =
    subst (λ (bs : List Block). All IsBlock bs) (sym e)
    (All-push IsBlock blocks b each (subst IsBlock (same_Some c b some) h))

all_counted : (blocks all : List Block) (o : Option Block) (b : Block) (ports : ℕ) →
    length blocks + last_count o ≡ ports → o ≡ Some b → all ≡ blocks ++ b ∷ [] →
    (length all ≡ ports) × (1 ≤ ports)
all_counted blocks all None b ports count some e = absurd (none-some b some)
all_counted blocks all (Some c) b ports count some e =
    let more : length all ≡ length blocks + 1 =
    ap (λ (bs : List Block). length bs) e ∙ length-append blocks (b ∷ []) in
    (omega (arith, more, count), omega (arith, count))

-- a file with a port is a script
pub script_is_whole : (p : Place) (b : Block) (mail pace key : ℕ) (blocks : List Block) →
    IsSound p → p.last ≡ Some b → mail ≡ unwrap_or p.mail default_mail →
    blocks ≡ p.blocks ++ b ∷ [] → IsScript (held mail pace key p.downs p.ports blocks)
script_is_whole p b mail pace key blocks s some mail_is e =
    let mails = mail_kept p.mail mail s.mail mail_is in
    let counts = all_counted p.blocks blocks p.last b (length p.ports) s.blocks some e in
    record {
      least_mail = mails.0;
      mail = mails.1;
      downs = s.downs;
      some_port = counts.1;
      ports = s.ports;
      port_numbers = s.port_numbers;
      ports_differ = s.ports_differ;
      blocks = counts.0;
      each = all_fit p.blocks blocks p.last b s.each s.last some e;
    }
