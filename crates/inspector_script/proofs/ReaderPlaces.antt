-- Where a reader stands behind lines that may follow one another: what those lines are of a script.
use Rattle.std.proofs.Common.{◌≡◌, ℕ, ◌<◌, ◌≤◌, true, ltb, not, List, [], ◌∷◌, ◌++◌, length}
use Rattle.std.proofs.Common.{length-append, append-nil, append_assoc, Option, Some, None, All}
use Rattle.std.proofs.Common.{◌∙◌, refl, sym, ap, subst, arith}
use Rattle.std.specs.Prelude.{◌≢◌, AllPairs, filter_map, flat_map, option_to_list}
use Rattle.std.specs.List.{list_any}
use Rattle.std.proofs.lemmas.Bool.{and_parts, ltb-true}
use Rattle.std.proofs.lemmas.Option.{cond_some, none-some, same_Some}
use Rattle.std.proofs.lemmas.List.{flat_map_more, map-append}
use Rattle.std.proofs.lemmas.List.Elements.{All-nil, All-push}
use Rattle.script_lines.specs.declared.line.Line.{Line}
use Rattle.script_lines.specs.declared.line.Line.TheVariants.{Nothing, Mail, Pace, Key, Down, Port}
use Rattle.script_lines.specs.declared.line.Line.TheVariants.{Inside}
use Rattle.script_lines.specs.declared.line.BlockLine.{BlockLine}
use Rattle.script_lines.specs.declared.line.Down as down
use Rattle.inspector_script.specs.declared.block.Block.{Block}
use Rattle.inspector_script.specs.Numbers.{most_downs, most_lines, most_ports}
use Rattle.inspector_script.specs.ScriptFile.{Place, after, block_after, is_port, may_begin}
use Rattle.inspector_script.specs.ScriptFile.{start, without_lines}
use Rattle.inspector_script.specs.Grammar.{IsHead, IsInside, IsPart, Part, SetsUp, block_of}
use Rattle.inspector_script.specs.Grammar.{blocks_of, down_in, key_in, lines_of}
use Rattle.inspector_script.specs.Grammar.{mail_in, own, owns, pace_in, ports_of}
use Rattle.inspector_script.proofs.ReaderPath.{Goes}
use Rattle.inspector_script.proofs.BlockGrowth.{EndOnce, Grows, added, block_grows, kept}
use Rattle.inspector_script.proofs.Leads.{bind_some}
use Rattle.inspector_script.proofs.Ports.{new_port}

abbrev pub place : Option ℕ → Option ℕ → Option ℕ → List down.Down → List ℕ → List Block →
    Option Block → Place
place mail pace key downs ports blocks last = record {
  mail = mail;
  pace = pace;
  key = key;
  downs = downs;
  ports = ports;
  blocks = blocks;
  last = last;
}

-- before the first port
pub record IsOutside (said : List Line) (p : Place) : Type 0 where
  pub head_is : IsHead said p.mail p.pace p.key p.downs
  pub no_ports : p.ports ≡ []
  pub no_blocks : p.blocks ≡ []

-- in a block: `before` stand in front of it, and `current` is what there is of it
pub record IsWithin (said : List Line) (p : Place) (b : Block) : Type 0 where
  pub head : List Line
  pub before : List Part
  pub current : Part
  pub said_is : said ≡ (head ++ flat_map lines_of before) ++ lines_of current
  pub head_is : IsHead head p.mail p.pace p.key p.downs
  pub before_are : All IsPart before
  pub current_is : IsPart current
  pub ports_are : p.ports ≡ ports_of before ++ current.port ∷ []
  pub blocks_are : p.blocks ≡ blocks_of before
  pub last_is : b ≡ block_of (owns current)
  pub few_ports : length p.ports ≤ most_ports
  pub differ : AllPairs (λ a b. a ≢ b) p.ports

abbrev pub IsAtBy : List Line → Place → Option Block → Type 0
IsAtBy said p None = IsOutside said p
IsAtBy said p (Some b) = IsWithin said p b

abbrev pub IsAt : List Line → Place → Type 0
IsAt said p = IsAtBy said p p.last

-- ---- one line more before the first port

head_nothing : (head : List Line) (m p k : Option ℕ) (d : List down.Down) → IsHead head m p k d →
    IsHead (head ++ Nothing ∷ []) m p k d
head_nothing head m p k d h = record {
  set_up = All-push SetsUp head Nothing h.set_up tt;
  mail_once = kept mail_in head Nothing (option_to_list m) refl h.mail_once;
  pace_once = kept pace_in head Nothing (option_to_list p) refl h.pace_once;
  key_once = kept key_in head Nothing (option_to_list k) refl h.key_once;
  downs_are = kept down_in head Nothing d refl h.downs_are;
  few_downs = h.few_downs;
}

head_mail : (head : List Line) (mail : ℕ) (p k : Option ℕ) (d : List down.Down) →
    IsHead head None p k d → IsHead (head ++ Mail mail ∷ []) (Some mail) p k d
head_mail head mail p k d h = record {
  set_up = All-push SetsUp head (Mail mail) h.set_up tt;
  mail_once = added mail_in head (Mail mail) mail [] refl h.mail_once;
  pace_once = kept pace_in head (Mail mail) (option_to_list p) refl h.pace_once;
  key_once = kept key_in head (Mail mail) (option_to_list k) refl h.key_once;
  downs_are = kept down_in head (Mail mail) d refl h.downs_are;
  few_downs = h.few_downs;
}

head_pace : (head : List Line) (pace : ℕ) (m k : Option ℕ) (d : List down.Down) →
    IsHead head m None k d → IsHead (head ++ Pace pace ∷ []) m (Some pace) k d
head_pace head pace m k d h = record {
  set_up = All-push SetsUp head (Pace pace) h.set_up tt;
  mail_once = kept mail_in head (Pace pace) (option_to_list m) refl h.mail_once;
  pace_once = added pace_in head (Pace pace) pace [] refl h.pace_once;
  key_once = kept key_in head (Pace pace) (option_to_list k) refl h.key_once;
  downs_are = kept down_in head (Pace pace) d refl h.downs_are;
  few_downs = h.few_downs;
}

head_key : (head : List Line) (key : ℕ) (m p : Option ℕ) (d : List down.Down) →
    IsHead head m p None d → IsHead (head ++ Key key ∷ []) m p (Some key) d
head_key head key m p d h = record {
  set_up = All-push SetsUp head (Key key) h.set_up tt;
  mail_once = kept mail_in head (Key key) (option_to_list m) refl h.mail_once;
  pace_once = kept pace_in head (Key key) (option_to_list p) refl h.pace_once;
  key_once = added key_in head (Key key) key [] refl h.key_once;
  downs_are = kept down_in head (Key key) d refl h.downs_are;
  few_downs = h.few_downs;
}

head_down : (head : List Line) (one : down.Down) (m p k : Option ℕ) (d : List down.Down) →
    length d < most_downs → IsHead head m p k d →
    IsHead (head ++ Down one ∷ []) m p k (d ++ one ∷ [])
head_down head one m p k d room h = record {
  set_up = All-push SetsUp head (Down one) h.set_up tt;
  mail_once = kept mail_in head (Down one) (option_to_list m) refl h.mail_once;
  pace_once = kept pace_in head (Down one) (option_to_list p) refl h.pace_once;
  key_once = kept key_in head (Down one) (option_to_list k) refl h.key_once;
  downs_are = added down_in head (Down one) one d refl h.downs_are;
  few_downs = omega (arith, length-append d (one ∷ []));
}

outside_nothing : (said : List Line) (p : Place) → IsOutside said p →
    IsOutside (said ++ Nothing ∷ []) p
outside_nothing said p h = record {
  head_is = head_nothing said p.mail p.pace p.key p.downs h.head_is;
  no_ports = h.no_ports;
  no_blocks = h.no_blocks;
}

no_pairs : (ports : List ℕ) → ports ≡ [] → AllPairs (λ a b. a ≢ b) ports
no_pairs ports none =
    subst (AllPairs (λ a b. a ≢ b)) (sym none) (λ i j d less within. absurd (omega arith))

-- a port whose block has no line yet
abbrev fresh : ℕ → Part
fresh port = record { port = port; inside = [] }

fresh_part : (port : ℕ) → IsPart (fresh port)
fresh_part port = record {
  inside = All-nil IsInside;
  few_lines = omega arith;
  ended_once = λ i j d less within. absurd (omega arith);
}

first_port : (said : List Line) (m p k : Option ℕ) (d : List down.Down) (ports : List ℕ)
    (blocks : List Block) (port : ℕ) →
    IsOutside said (place m p k d ports blocks None) →
    may_begin (place m p k d ports blocks None) port ≡ true →
    IsWithin (said ++ Port port ∷ [])
    (place m p k d (ports ++ port ∷ []) (blocks ++ []) (Some without_lines)) without_lines
first_port said m p k d ports blocks port h may =
    let parts = and_parts (ltb (length ports) most_ports) (not (list_any (is_port port) ports)) may
    in
    let room : length ports < most_ports = ltb-true (length ports) most_ports parts.0 in record {
      head = said;
      before = [];
      current = fresh port;
      said_is = ap (λ ls. ls ++ Port port ∷ []) (sym (append-nil said));
      head_is = h.head_is;
      before_are = All-nil IsPart;
      current_is = fresh_part port;
      ports_are = ap (λ ps. ps ++ port ∷ []) h.no_ports;
      blocks_are = append-nil blocks ∙ h.no_blocks;
      last_is = refl;
      few_ports = omega (arith, length-append ports (port ∷ []));
      differ = new_port ports port (no_pairs ports h.no_ports) parts.1;
    }

-- ---- one line more in a block

part_nothing : (part : Part) → IsPart part →
    IsPart (record { port = part.port; inside = part.inside ++ Nothing ∷ [] })
part_nothing part h =
    let same : filter_map own (part.inside ++ Nothing ∷ []) ≡ owns part =
    kept own part.inside Nothing (owns part) refl refl in record {
      inside = All-push IsInside part.inside Nothing h.inside tt;
      few_lines = subst (λ (ls : List BlockLine). length ls ≤ most_lines) (sym same) h.few_lines;
      ended_once = subst EndOnce (sym same) h.ended_once;
    }

part_line : (part : Part) (l : BlockLine) (c : Block) → IsPart part → Grows (owns part) l c →
    IsPart (record { port = part.port; inside = part.inside ++ Inside l ∷ [] })
part_line part l c h grows =
    let more : filter_map own (part.inside ++ Inside l ∷ []) ≡ owns part ++ l ∷ [] =
    added own part.inside (Inside l) l (owns part) refl refl in record {
      inside = All-push IsInside part.inside (Inside l) h.inside tt;
      few_lines = subst (λ (ls : List BlockLine). length ls ≤ most_lines) (sym more) grows.few;
      ended_once = subst EndOnce (sym more) grows.once;
    }

lines_more : (front : List Line) (part : Part) (l : Line) (said : List Line) →
    said ≡ front ++ lines_of part →
    said ++ l ∷ [] ≡ front ++ lines_of (record { port = part.port; inside = part.inside ++ l ∷ [] })
lines_more front part l said e =
    ap (λ ls. ls ++ l ∷ []) e ∙ append_assoc front (lines_of part) (l ∷ [])

within_nothing : (said : List Line) (p : Place) (b : Block) → IsWithin said p b →
    IsWithin (said ++ Nothing ∷ []) p b
within_nothing said p b h =
    let same : filter_map own (h.current.inside ++ Nothing ∷ []) ≡ owns h.current =
    kept own h.current.inside Nothing (owns h.current) refl refl in record {
      head = h.head;
      before = h.before;
      current = record { port = h.current.port; inside = h.current.inside ++ Nothing ∷ [] };
      said_is = lines_more (h.head ++ flat_map lines_of h.before) h.current Nothing said h.said_is;
      head_is = h.head_is;
      before_are = h.before_are;
      current_is = part_nothing h.current h.current_is;
      ports_are = h.ports_are;
      blocks_are = h.blocks_are;
      last_is = h.last_is ∙ ap block_of (sym same);
      few_ports = h.few_ports;
      differ = h.differ;
    }

within_line : (said : List Line) (m p k : Option ℕ) (d : List down.Down) (ports : List ℕ)
    (blocks : List Block) (b c : Block) (l : BlockLine) →
    IsWithin said (place m p k d ports blocks (Some b)) b → block_after b l ≡ Some c →
    IsWithin (said ++ Inside l ∷ []) (place m p k d ports blocks (Some c)) c
within_line said m p k d ports blocks b c l h e =
    let grows : Grows (owns h.current) l c =
    block_grows (owns h.current) l c h.current_is.ended_once
    (subst (λ (b : Block). block_after b l ≡ Some c) h.last_is e) in
    let more : filter_map own (h.current.inside ++ Inside l ∷ []) ≡ owns h.current ++ l ∷ [] =
    added own h.current.inside (Inside l) l (owns h.current) refl refl in record {
      head = h.head;
      before = h.before;
      current = record { port = h.current.port; inside = h.current.inside ++ Inside l ∷ [] };
      said_is =
          lines_more (h.head ++ flat_map lines_of h.before) h.current (Inside l) said h.said_is;
      head_is = h.head_is;
      before_are = h.before_are;
      current_is = part_line h.current l c h.current_is grows;
      ports_are = h.ports_are;
      blocks_are = h.blocks_are;
      last_is = grows.block ∙ ap block_of (sym more);
      few_ports = h.few_ports;
      differ = h.differ;
    }

next_port : (said : List Line) (m p k : Option ℕ) (d : List down.Down) (ports : List ℕ)
    (blocks : List Block) (b : Block) (port : ℕ) →
    IsWithin said (place m p k d ports blocks (Some b)) b →
    may_begin (place m p k d ports blocks (Some b)) port ≡ true →
    IsWithin (said ++ Port port ∷ [])
    (place m p k d (ports ++ port ∷ []) (blocks ++ b ∷ []) (Some without_lines)) without_lines
next_port said m p k d ports blocks b port h may =
    let parts = and_parts (ltb (length ports) most_ports) (not (list_any (is_port port) ports)) may
    in
    let room : length ports < most_ports = ltb-true (length ports) most_ports parts.0 in record {
      head = h.head;
      before = h.before ++ h.current ∷ [];
      current = fresh port;
      said_is = ap (λ ls. ls ++ Port port ∷ [])
          (h.said_is ∙ flat_map_more lines_of h.head h.before h.current);
      head_is = h.head_is;
      before_are = All-push IsPart h.before h.current h.before_are h.current_is;
      current_is = fresh_part port;
      ports_are = ap (λ ps. ps ++ port ∷ []) (h.ports_are
          ∙ sym (map-append (λ (part : Part). part.port) h.before (h.current ∷ [])));
      blocks_are = ap (λ bs. bs ++ b ∷ []) h.blocks_are
          ∙ ap (λ (c : Block). blocks_of h.before ++ c ∷ []) h.last_is
          ∙ sym (map-append (λ (part : Part). block_of (owns part)) h.before (h.current ∷ []));
      last_is = refl;
      few_ports = omega (arith, length-append ports (port ∷ []));
      differ = new_port ports port h.differ parts.1;
    }

-- ---- one line more

at_next_by : (m p k : Option ℕ) (d : List down.Down) (ports : List ℕ) (blocks : List Block)
    (last : Option Block) (said : List Line) (l : Line) (q : Place) →
    IsAtBy said (place m p k d ports blocks last) last →
    after (place m p k d ports blocks last) l ≡ Some q → IsAt (said ++ l ∷ []) q
unfolding after
at_next_by m p k d ports blocks None said Nothing q h e =
    subst (IsAt (said ++ Nothing ∷ [])) (same_Some _ q e)
    (outside_nothing said (place m p k d ports blocks None) h)
at_next_by None p k d ports blocks None said (Mail mail) q h e =
    subst (IsAt (said ++ Mail mail ∷ [])) (same_Some _ q e) (record {
      head_is = head_mail said mail p k d h.head_is;
      no_ports = h.no_ports;
      no_blocks = h.no_blocks;
    })
at_next_by (Some m) p k d ports blocks None said (Mail mail) q h e = absurd (none-some q e)
at_next_by m None k d ports blocks None said (Pace pace) q h e =
    subst (IsAt (said ++ Pace pace ∷ [])) (same_Some _ q e) (record {
      head_is = head_pace said pace m k d h.head_is;
      no_ports = h.no_ports;
      no_blocks = h.no_blocks;
    })
at_next_by m (Some p) k d ports blocks None said (Pace pace) q h e = absurd (none-some q e)
at_next_by m p None d ports blocks None said (Key key) q h e =
    subst (IsAt (said ++ Key key ∷ [])) (same_Some _ q e) (record {
      head_is = head_key said key m p d h.head_is;
      no_ports = h.no_ports;
      no_blocks = h.no_blocks;
    })
at_next_by m p (Some k) d ports blocks None said (Key key) q h e = absurd (none-some q e)
at_next_by m p k d ports blocks None said (Down one) q h e =
    let parts = cond_some (ltb (length d) most_downs) _ q e in
    subst (IsAt (said ++ Down one ∷ [])) parts.1 (record {
      head_is =
          head_down said one m p k d (ltb-true (length d) most_downs parts.0) h.head_is;
      no_ports = h.no_ports;
      no_blocks = h.no_blocks;
    })
at_next_by m p k d ports blocks None said (Port port) q h e =
    let parts = cond_some (may_begin (place m p k d ports blocks None) port) _ q e in
    subst (IsAt (said ++ Port port ∷ [])) parts.1
    (first_port said m p k d ports blocks port h parts.0)
at_next_by m p k d ports blocks None said (Inside l) q h e = absurd (none-some q e)
at_next_by m p k d ports blocks (Some b) said Nothing q h e =
    subst (IsAt (said ++ Nothing ∷ [])) (same_Some _ q e)
    (within_nothing said (place m p k d ports blocks (Some b)) b h)
at_next_by m p k d ports blocks (Some b) said (Mail mail) q h e = absurd (none-some q e)
at_next_by m p k d ports blocks (Some b) said (Pace pace) q h e = absurd (none-some q e)
at_next_by m p k d ports blocks (Some b) said (Key key) q h e = absurd (none-some q e)
at_next_by m p k d ports blocks (Some b) said (Down one) q h e = absurd (none-some q e)
at_next_by m p k d ports blocks (Some b) said (Port port) q h e =
    let parts = cond_some (may_begin (place m p k d ports blocks (Some b)) port) _ q e in
    subst (IsAt (said ++ Port port ∷ [])) parts.1
    (next_port said m p k d ports blocks b port h parts.0)
at_next_by m p k d ports blocks (Some b) said (Inside l) q h e =
    let grown = bind_some (block_after b l) _ q e in
    subst (IsAt (said ++ Inside l ∷ [])) (same_Some _ q grown.2)
    (within_line said m p k d ports blocks b grown.0 l h grown.1)

at_next : (said : List Line) (p q : Place) (l : Line) → IsAt said p → after p l ≡ Some q →
    IsAt (said ++ l ∷ []) q
at_next said p q l h e =
    at_next_by p.mail p.pace p.key p.downs p.ports p.blocks p.last said l q h e

-- lines that go on from a place stand behind those before it
goes_at : (done more : List Line) (p q : Place) → IsAt done p → Goes p more q →
    IsAt (done ++ more) q
goes_at done [] p q h g = rw (append-nil done) (subst (IsAt done) g h)
goes_at done (l ∷ more) p q h g =
    subst (λ ls. IsAt ls q) (append_assoc done (l ∷ []) more)
    (goes_at (done ++ l ∷ []) more g.0 q (at_next done p g.0 l h g.1) g.2)

at_start : IsAt [] start
at_start = record {
  head_is = record {
    set_up = All-nil SetsUp;
    mail_once = refl;
    pace_once = refl;
    key_once = refl;
    downs_are = refl;
    few_downs = omega arith;
  };
  no_ports = refl;
  no_blocks = refl;
}

-- where lines lead from the start
pub reached : (said : List Line) (q : Place) → Goes start said q → IsAt said q
reached said q g = goes_at [] said start q at_start g
