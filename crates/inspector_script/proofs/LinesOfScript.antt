-- The lines of a script lead a reader to it.
use Rattle.std.proofs.Common.{◌≡◌, ℕ, ◌+◌, ◌<◌, ◌≤◌, Bool, true, false, ltb, not, ◌&&◌, List, []}
use Rattle.std.proofs.Common.{◌∷◌, ◌++◌, length, length-append, append-nil, append_assoc, get_or}
use Rattle.std.proofs.Common.{Option, Some, None, All, ◌∙◌, refl, sym, ap, subst, arith, eqb}
use Rattle.std.specs.Prelude.{◌≢◌, AllPairs, filter_map, flat_map, option_to_list, unwrap_or}
use Rattle.std.specs.List.{list_any}
use Rattle.std.proofs.lemmas.Bool.{eqb-true, false_from_ne_true, false≢true, lt-ltb}
use Rattle.std.proofs.lemmas.List.{get_or_append_left}
use Rattle.std.proofs.lemmas.List.Elements.{All-head, All-tail}
use Rattle.std.proofs.lemmas.List.Folds.{list_any_none}
use Rattle.std.proofs.Math.Seq.{get_or-append_seam}
use Rattle.script_lines.specs.declared.line.Line.{Line}
use Rattle.script_lines.specs.declared.line.Line.TheVariants.{Nothing, Mail, Pace, Key, Down, Port}
use Rattle.script_lines.specs.declared.line.Line.TheVariants.{Inside}
use Rattle.script_lines.specs.declared.line.BlockLine.{BlockLine}
use Rattle.script_lines.specs.declared.line.Down as down
use Rattle.inspector_script.specs.declared.block.Block.{Block}
use Rattle.inspector_script.specs.Numbers.{default_key, default_mail, default_pace}
use Rattle.inspector_script.specs.Numbers.{most_downs, most_lines, most_ports}
use Rattle.inspector_script.specs.Scripts.{ScriptValue, held}
use Rattle.inspector_script.specs.ScriptFile.{Place, after, block_after, is_port}
use Rattle.inspector_script.specs.ScriptFile.{start, without_lines}
use Rattle.inspector_script.specs.Grammar.{IsInside, IsPart, Part, SayScript, SetsUp}
use Rattle.inspector_script.specs.Grammar.{block_of, blocks_of, down_in, key_in, lines_of, mail_in}
use Rattle.inspector_script.specs.Grammar.{own, owns, pace_in, ports_of}
use Rattle.inspector_script.proofs.ReaderPath.{Goes, goes_append}
use Rattle.inspector_script.proofs.BlockGrowth.{EndOnce, block_step}
use Rattle.inspector_script.proofs.Leads.{EndsIn}
use Rattle.inspector_script.proofs.ReaderPlaces.{place}

-- ---- before the first port

same_option : (a b : Option ℕ) → option_to_list a ++ [] ≡ option_to_list b → a ≡ b
same_option None None e = refl
same_option None (Some y) e = absurd (let never : length {A = ℕ} [] ≡ length (y ∷ []) =
    ap length e in omega arith)
same_option (Some x) None e = absurd (let never : length (x ∷ []) ≡ length {A = ℕ} [] =
    ap length e in omega arith)
same_option (Some x) (Some y) e = let same : x ≡ y = cc in ap (λ z. Some z) same

twice : (x y : ℕ) (more : List ℕ) (o : Option ℕ) → x ∷ y ∷ more ≡ option_to_list o → ⊥
twice x y more None e =
    let never : length (x ∷ y ∷ more) ≡ length {A = ℕ} [] = ap length e in omega arith
twice x y more (Some z) e =
    let never : length (x ∷ y ∷ more) ≡ length (z ∷ []) = ap length e in omega arith

abbrev outside : Option ℕ → Option ℕ → Option ℕ → List down.Down → Place
outside m p k d = place m p k d [] [] None

-- what is to come of a head, from what was said before
pub record IsToCome (more : List Line) (m p k : Option ℕ) (d : List down.Down)
    (m2 p2 k2 : Option ℕ) (d2 : List down.Down) : Type 0 where
  pub set_up : All SetsUp more
  pub mail : option_to_list m ++ filter_map mail_in more ≡ option_to_list m2
  pub pace : option_to_list p ++ filter_map pace_in more ≡ option_to_list p2
  pub key : option_to_list k ++ filter_map key_in more ≡ option_to_list k2
  pub downs : d ++ filter_map down_in more ≡ d2
  pub few : length d2 ≤ most_downs

same_place : (m p k : Option ℕ) (d : List down.Down) (m2 p2 k2 : Option ℕ)
    (d2 : List down.Down) → m ≡ m2 → p ≡ p2 → k ≡ k2 → d ≡ d2 →
    outside m p k d ≡ outside m2 p2 k2 d2
same_place m p k d m2 p2 k2 d2 a b c e =
    ap (λ x. outside x p k d) a ∙ ap (λ x. outside m2 x k d) b ∙ ap (λ x. outside m2 p2 x d) c
    ∙ ap (λ x. outside m2 p2 k2 x) e

goes_head : (more : List Line) (m p k : Option ℕ) (d : List down.Down) (m2 p2 k2 : Option ℕ)
    (d2 : List down.Down) → IsToCome more m p k d m2 p2 k2 d2 →
    Goes (outside m p k d) more (outside m2 p2 k2 d2)
unfolding after
goes_head [] m p k d m2 p2 k2 d2 h =
    same_place m p k d m2 p2 k2 d2 (same_option m m2 h.mail) (same_option p p2 h.pace)
    (same_option k k2 h.key) (sym (append-nil d) ∙ h.downs)
goes_head (Nothing ∷ more) m p k d m2 p2 k2 d2 h = (
  outside m p k d,
  refl,
  goes_head more m p k d m2 p2 k2 d2 (record {
    set_up = All-tail SetsUp Nothing more h.set_up;
    mail = h.mail;
    pace = h.pace;
    key = h.key;
    downs = h.downs;
    few = h.few;
  }),
)
goes_head (Mail mail ∷ more) None p k d m2 p2 k2 d2 h = (
  outside (Some mail) p k d,
  refl,
  goes_head more (Some mail) p k d m2 p2 k2 d2 (record {
    set_up = All-tail SetsUp (Mail mail) more h.set_up;
    mail = h.mail;
    pace = h.pace;
    key = h.key;
    downs = h.downs;
    few = h.few;
  }),
)
goes_head (Mail mail ∷ more) (Some m) p k d m2 p2 k2 d2 h =
    absurd (twice m mail (filter_map mail_in more) m2 h.mail)
goes_head (Pace pace ∷ more) m None k d m2 p2 k2 d2 h = (
  outside m (Some pace) k d,
  refl,
  goes_head more m (Some pace) k d m2 p2 k2 d2 (record {
    set_up = All-tail SetsUp (Pace pace) more h.set_up;
    mail = h.mail;
    pace = h.pace;
    key = h.key;
    downs = h.downs;
    few = h.few;
  }),
)
goes_head (Pace pace ∷ more) m (Some p) k d m2 p2 k2 d2 h =
    absurd (twice p pace (filter_map pace_in more) p2 h.pace)
goes_head (Key key ∷ more) m p None d m2 p2 k2 d2 h = (
  outside m p (Some key) d,
  refl,
  goes_head more m p (Some key) d m2 p2 k2 d2 (record {
    set_up = All-tail SetsUp (Key key) more h.set_up;
    mail = h.mail;
    pace = h.pace;
    key = h.key;
    downs = h.downs;
    few = h.few;
  }),
)
goes_head (Key key ∷ more) m p (Some k) d m2 p2 k2 d2 h =
    absurd (twice k key (filter_map key_in more) k2 h.key)
goes_head (Down one ∷ more) m p k d m2 p2 k2 d2 h =
    let all : length (d ++ one ∷ filter_map down_in more) ≡ length d2 = ap length h.downs in
    let room : length d < most_downs =
    omega (arith, h.few, all, length-append d (one ∷ filter_map down_in more)) in (
      outside m p k (d ++ one ∷ []),
      rw (lt-ltb (length d) most_downs room) refl,
      goes_head more m p k (d ++ one ∷ []) m2 p2 k2 d2 (record {
        set_up = All-tail SetsUp (Down one) more h.set_up;
        mail = h.mail;
        pace = h.pace;
        key = h.key;
        downs = append_assoc d (one ∷ []) (filter_map down_in more) ∙ h.downs;
        few = h.few;
      }),
    )
goes_head (Port port ∷ more) m p k d m2 p2 k2 d2 h =
    absurd (All-head SetsUp (Port port) more h.set_up)
goes_head (Inside l ∷ more) m p k d m2 p2 k2 d2 h =
    absurd (All-head SetsUp (Inside l) more h.set_up)

-- ---- a block

goes_block : (m p k : Option ℕ) (d : List down.Down) (ports : List ℕ) (blocks : List Block)
    (done : List BlockLine) (more : List Line) → All IsInside more →
    length (done ++ filter_map own more) ≤ most_lines → EndOnce (done ++ filter_map own more) →
    Goes (place m p k d ports blocks (Some (block_of done))) more
    (place m p k d ports blocks (Some (block_of (done ++ filter_map own more))))
unfolding after
goes_block m p k d ports blocks done [] are few once =
    ap (λ ls. place m p k d ports blocks (Some (block_of ls))) (sym (append-nil done))
goes_block m p k d ports blocks done (Nothing ∷ more) are few once = (
  place m p k d ports blocks (Some (block_of done)),
  refl,
  goes_block m p k d ports blocks done more (All-tail IsInside Nothing more are) few once,
)
goes_block m p k d ports blocks done (Mail mail ∷ more) are few once =
    absurd (All-head IsInside (Mail mail) more are)
goes_block m p k d ports blocks done (Pace pace ∷ more) are few once =
    absurd (All-head IsInside (Pace pace) more are)
goes_block m p k d ports blocks done (Key key ∷ more) are few once =
    absurd (All-head IsInside (Key key) more are)
goes_block m p k d ports blocks done (Down one ∷ more) are few once =
    absurd (All-head IsInside (Down one) more are)
goes_block m p k d ports blocks done (Port port ∷ more) are few once =
    absurd (All-head IsInside (Port port) more are)
goes_block m p k d ports blocks done (Inside l ∷ more) are few once =
    let next : List BlockLine = done ++ l ∷ [] in
    let step : block_after (block_of done) l ≡ Some (block_of next) =
    block_step done (filter_map own more) l few once in
    let all : next ++ filter_map own more ≡ done ++ l ∷ filter_map own more =
    append_assoc done (l ∷ []) (filter_map own more) in (
      place m p k d ports blocks (Some (block_of next)),
      rw step refl,
      subst (λ (ls : List BlockLine).
          Goes (place m p k d ports blocks (Some (block_of next))) more
          (place m p k d ports blocks (Some (block_of ls)))) all
          (goes_block m p k d ports blocks next more (All-tail IsInside (Inside l) more are)
          (subst (λ (ls : List BlockLine). length ls ≤ most_lines) (sym all) few)
          (subst EndOnce (sym all) once)),
    )

-- ---- the blocks

is_new : (ports more : List ℕ) (port : ℕ) → AllPairs (λ a b. a ≢ b) (ports ++ port ∷ more) →
    list_any (is_port port) ports ≡ false
is_new ports more port differ =
    list_any_none (is_port port) ports
    (λ k d less. false_from_ne_true (eqb (get_or ports k d) port)
    (λ same. differ k (length ports) d less (omega (arith, length-append ports (port ∷ more)))
    (get_or_append_left ports (port ∷ more) d k less ∙ eqb-true (get_or ports k d) port same
    ∙ sym (get_or-append_seam ports port more d))))

may_both : (a b : Bool) → a ≡ true → b ≡ false → (a && not b) ≡ true
may_both true true e f = sym f
may_both true false e f = refl
may_both false b e f = absurd (false≢true e)

opens_block : (m p k : Option ℕ) (d : List down.Down) (ports more : List ℕ)
    (blocks : List Block) (last : Option Block) (port : ℕ) → length ports < most_ports →
    AllPairs (λ a b. a ≢ b) (ports ++ port ∷ more) →
    after (place m p k d ports blocks last) (Port port)
    ≡ Some (place m p k d (ports ++ port ∷ []) (blocks ++ option_to_list last)
    (Some without_lines))
unfolding after
opens_block m p k d ports more blocks last port room differ =
    rw (may_both (ltb (length ports) most_ports) (list_any (is_port port) ports)
    (lt-ltb (length ports) most_ports room) (is_new ports more port differ)) refl

-- the lines of one block
goes_part : (m p k : Option ℕ) (d : List down.Down) (ports more : List ℕ) (blocks : List Block)
    (last : Option Block) (part : Part) → IsPart part → length ports < most_ports →
    AllPairs (λ a b. a ≢ b) (ports ++ part.port ∷ more) →
    Goes (place m p k d ports blocks last) (lines_of part)
    (place m p k d (ports ++ part.port ∷ []) (blocks ++ option_to_list last)
    (Some (block_of (owns part))))
goes_part m p k d ports more blocks last part is room differ = (
  place m p k d (ports ++ part.port ∷ []) (blocks ++ option_to_list last) (Some without_lines),
  opens_block m p k d ports more blocks last part.port room differ,
  goes_block m p k d (ports ++ part.port ∷ []) (blocks ++ option_to_list last) [] part.inside
      is.inside is.few_lines is.ended_once,
)

-- where the lines of the blocks end
pub record EndsAt (m p k : Option ℕ) (d : List down.Down) (ports : List ℕ) (blocks : List Block)
    (from : Place) (said : List Line) : Type 0 where
  pub front : List Block
  pub last : Block
  pub goes : Goes from said (place m p k d ports front (Some last))
  pub blocks_are : front ++ last ∷ [] ≡ blocks

goes_parts : (m p k : Option ℕ) (d : List down.Down) (ports : List ℕ) (blocks : List Block)
    (b : Block) (parts : List Part) → All IsPart parts →
    length ports + length parts ≤ most_ports →
    AllPairs (λ a b. a ≢ b) (ports ++ ports_of parts) →
    EndsAt m p k d (ports ++ ports_of parts) ((blocks ++ b ∷ []) ++ blocks_of parts)
    (place m p k d ports blocks (Some b)) (flat_map lines_of parts)
goes_parts m p k d ports blocks b [] are few differ = record {
  front = blocks;
  last = b;
  goes = ap (λ ps. place m p k d ps blocks (Some b)) (sym (append-nil ports));
  blocks_are = sym (append-nil (blocks ++ b ∷ []));
}
goes_parts m p k d ports blocks b (part ∷ parts) are few differ =
    let ports_are : (ports ++ part.port ∷ []) ++ ports_of parts ≡ ports ++ ports_of (part ∷ parts) =
    append_assoc ports (part.port ∷ []) (ports_of parts) in
    let new : Block = block_of (owns part) in
    let blocks_are : ((blocks ++ b ∷ []) ++ new ∷ []) ++ blocks_of parts
    ≡ (blocks ++ b ∷ []) ++ blocks_of (part ∷ parts) =
    append_assoc (blocks ++ b ∷ []) (new ∷ []) (blocks_of parts) in
    let first =
    goes_part m p k d ports (ports_of parts) blocks (Some b) part (All-head IsPart part parts are)
    (omega arith) differ in
    let later =
    goes_parts m p k d (ports ++ part.port ∷ []) (blocks ++ b ∷ []) new parts
    (All-tail IsPart part parts are) (omega (arith, length-append ports (part.port ∷ [])))
    (subst (AllPairs (λ a b. a ≢ b)) (sym ports_are) differ) in record {
      front = later.front;
      last = later.last;
      goes = subst (λ (ps : List ℕ). Goes (place m p k d ports blocks (Some b))
          (flat_map lines_of (part ∷ parts)) (place m p k d ps later.front (Some later.last)))
          ports_are
          (goes_append (place m p k d ports blocks (Some b))
          (place m p k d (ports ++ part.port ∷ []) (blocks ++ b ∷ []) (Some new))
          (place m p k d ((ports ++ part.port ∷ []) ++ ports_of parts) later.front
          (Some later.last)) (lines_of part) (flat_map lines_of parts) first later.goes);
      blocks_are = later.blocks_are ∙ blocks_are;
    }

goes_all : (m p k : Option ℕ) (d : List down.Down) (parts : List Part) → All IsPart parts →
    1 ≤ length parts → length parts ≤ most_ports →
    AllPairs (λ a b. a ≢ b) (ports_of parts) →
    EndsAt m p k d (ports_of parts) (blocks_of parts) (outside m p k d) (flat_map lines_of parts)
goes_all m p k d [] are some few differ = absurd (omega arith)
goes_all m p k d (part ∷ parts) are some few differ =
    let new : Block = block_of (owns part) in
    let first =
    goes_part m p k d [] (ports_of parts) [] None part (All-head IsPart part parts are)
    (omega arith) differ in
    let later =
    goes_parts m p k d (part.port ∷ []) [] new parts (All-tail IsPart part parts are)
    (omega arith) differ
    in record {
      front = later.front;
      last = later.last;
      goes = goes_append (outside m p k d) (place m p k d (part.port ∷ []) [] (Some new))
          (place m p k d (ports_of (part ∷ parts)) later.front (Some later.last)) (lines_of part)
          (flat_map lines_of parts) first later.goes;
      blocks_are = later.blocks_are;
    }

-- what the lines of a script say goes on from the start to it
pub goes_script : (said : List Line) (s : ScriptValue) → SayScript said s →
    (q : Place) × Goes start said q × EndsIn q s
goes_script said s h =
    let head =
    goes_head h.head None None None [] h.mail h.pace h.key s.downs (record {
      set_up = h.head_is.set_up;
      mail = h.head_is.mail_once;
      pace = h.head_is.pace_once;
      key = h.head_is.key_once;
      downs = h.head_is.downs_are;
      few = h.head_is.few_downs;
    }) in
    let blocks =
    goes_all h.mail h.pace h.key s.downs h.parts h.parts_are h.some_port h.few_ports
    h.ports_differ in
    let q : Place =
    place h.mail h.pace h.key s.downs (ports_of h.parts) blocks.front (Some blocks.last) in
    let all : Goes start (h.head ++ flat_map lines_of h.parts) q =
    goes_append start (outside h.mail h.pace h.key s.downs) q h.head (flat_map lines_of h.parts)
    head blocks.goes in (
      q,
      subst (λ (ls : List Line). Goes start ls q) (sym h.said_is) all,
      (
        blocks.last,
        refl,
        ap (λ (bs : List Block). held (unwrap_or h.mail default_mail)
            (unwrap_or h.pace default_pace) (unwrap_or h.key default_key) s.downs
            (ports_of h.parts) bs) blocks.blocks_are ∙ sym h.script_is,
      ),
    )
