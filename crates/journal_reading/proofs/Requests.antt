-- The requests of a journal's lines are read exactly where they are written.
use Rattle.std.proofs.Common.{◌≡◌, ℕ, cond, List, [], ◌∷◌}
use Rattle.std.proofs.Common.{◌++◌, Option, Some, None, ◌∙◌, refl, sym, ap, subst, arith}
use Rattle.std.proofs.Common.{append_assoc, decimal}
use Rattle.std.specs.Prelude.{◌^◌, bytes_eq, codes, option_map, IfSome}
use Rattle.std.specs.Option.{option_map_or}
use Rattle.std.proofs.lemmas.Option.{none-some, same_Some, some_pair_parts}
use Rattle.hex.specs.Hex.{IsBytes}
use Rattle.text_lines.specs.Words.{◌>>=◌, cut_at}
use Rattle.text_lines.specs.Digits as digits
use Rattle.text_lines.specs.Hexadecimal.{hexadecimal}
use Rattle.nfqa_headers.specs.declared.params.Params.{Params}
use Rattle.nfqa_headers.specs.declared.verdict_header.Head.{Head}
use Rattle.nfqa_msgs.specs.declared.request.Request.{Request}
use Rattle.nfqa_msgs.specs.declared.request.Request.TheVariants.{Config, Verdict, Batch}
use Rattle.journals.specs.declared.version.Version.{Version}
use Rattle.journals.specs.declared.version.Version.TheVariants.{First, Second}
use Rattle.journals.specs.Formed.{FitsHead, FitsNewPriority, FitsParams, FitsRequest, IsHalf}
use Rattle.journals.specs.Formed.{IsSmall, IsWide}
use Rattle.journal_reading.specs.Reading.{batch_in, batch_made, behind, both, bytes_in}
use Rattle.journal_reading.specs.Reading.{config_in, config_made, field, half, head_in, head_made}
use Rattle.journal_reading.specs.Reading.{made}
use Rattle.journal_reading.specs.Reading.{new_priority_in}
use Rattle.journal_reading.specs.Reading.{params_in, params_made, part, request_by, request_in}
use Rattle.journal_reading.specs.Reading.{small}
use Rattle.journal_reading.specs.Reading.{verdict_in, verdict_made}
use Rattle.journal_reading.proofs.WordCuts.{Laws, bind_some, cut_front, cut_some, map_some, passed}
use Rattle.journal_reading.proofs.WordCuts.{uncut_append}
use Rattle.journal_reading.proofs.Formats.{Any, BeforeEquals, IsField, NotBehind, apart}
use Rattle.journal_reading.proofs.Formats.{behind_some}
use Rattle.journal_reading.proofs.Formats.{both_is, equals_apart, made_is, part_is, part_text}
use Rattle.journal_reading.proofs.Formats.{weaker}
use Rattle.journal_reading.proofs.WordForm.{below_field, bytes_field, number_field, number_no_dash}
use Rattle.journal_reading.proofs.WordForm.{number_unblank}
use Rattle.journal_reading.proofs.WordForm.{pick}

abbrev pub number_text : ℕ → List ℕ
number_text n = decimal n ++ 32 ∷ []

abbrev pub bytes_text : List ℕ → List ℕ
bytes_text bs = hexadecimal bs ++ 32 ∷ []

pub half_field : Laws → IsField (field half) number_text IsHalf Any
half_field laws = below_field laws (2 ^ 16) (omega arith)

small_field : Laws → IsField (field small) number_text IsSmall Any
small_field laws = below_field laws (2 ^ 8) (omega arith)

-- ---- copy modes with their range

abbrev pub params_text : Params → List ℕ
params_text p = number_text p.mode ++ number_text p.range

params_pair : Laws → IsField (both (field small) (field digits.decimal))
    (λ p. number_text p.0 ++ number_text p.1) (λ p. IsSmall p.0 × IsWide p.1) Any
params_pair laws =
    both_is (field small) (field digits.decimal) number_text number_text IsSmall IsWide Any Any
    (small_field laws) (number_field laws) (λ y rest f a. tt)

params_field : Laws → IsField params_in params_text FitsParams Any
unfolding params_in
params_field laws =
    let h = made_is params_made (λ (p : Params). (p.mode, p.range))
    (both (field small) (field digits.decimal)) (λ p. number_text p.0 ++ number_text p.1)
    (λ p. IsSmall p.0 × IsWide p.1) Any (λ b. refl) (λ a. refl) (params_pair laws) in record {
      again = λ x rest fits any. h.again x rest (fits.mode, fits.range) any;
      spelled = λ front x rest e. let s = h.spelled front x rest e in
          (record { mode = (s.0).0; range = (s.0).1 }, s.1);
      one_line = λ x fits. h.one_line x (fits.mode, fits.range);
    }

-- ---- verdict headers

abbrev pub head_text : Option Head → List ℕ
head_text None = codes "- "
head_text (Some h) = number_text h.verdict ++ number_text h.id

abbrev FitsHeads : Option Head → Type 0
FitsHeads o = IfSome o FitsHead

head_pair : Laws → IsField (both (field digits.decimal) (field digits.decimal))
    (λ p. number_text p.0 ++ number_text p.1) (λ p. IsWide p.0 × IsWide p.1) Any
head_pair laws =
    both_is (field digits.decimal) (field digits.decimal) number_text number_text IsWide IsWide Any
    Any (number_field laws) (number_field laws) (λ y rest f a. tt)

number_not_dash : Laws → (n : ℕ) (rest : List ℕ) → IsWide n →
    NotBehind (codes "-") (decimal n ++ 32 ∷ rest)
number_not_dash laws n rest fits =
    ap (λ (o : Option (List ℕ × List ℕ)). o >>= λ parts. cond (bytes_eq parts.0 (codes "-"))
    (Some parts.1) None) (cut_front 32 (decimal n) rest (number_unblank laws n fits))
    ∙ passed (bytes_eq (decimal n) (codes "-")) (Some rest) None (number_no_dash laws n fits)

head_again : Laws → (o : Option Head) (rest : List ℕ) → FitsHeads o →
    head_in (head_text o ++ rest) ≡ Some (o, rest)
unfolding head_in
head_again laws None rest fits = refl
head_again laws (Some h) rest fits =
    let regroup : (number_text h.verdict ++ number_text h.id) ++ rest
    ≡ decimal h.verdict ++ 32 ∷ (number_text h.id ++ rest) =
    append_assoc (number_text h.verdict) (number_text h.id) rest
    ∙ append_assoc (decimal h.verdict) (32 ∷ []) (number_text h.id ++ rest) in
    let absent : behind (codes "-") ((number_text h.verdict ++ number_text h.id) ++ rest) ≡ None =
    ap (behind (codes "-")) regroup
    ∙ number_not_dash laws h.verdict (number_text h.id ++ rest) fits.verdict in
    ap (λ (o : Option (List ℕ)). option_map_or {T = List ℕ} {U = Option (Option Head × List ℕ)}
    (λ more. Some (None, more)) o (made (λ (x : ℕ × ℕ). Some (head_made x))
    (both (field digits.decimal) (field digits.decimal))
    ((number_text h.verdict ++ number_text h.id) ++ rest))) absent
    ∙ ap (option_map (λ (x : (ℕ × ℕ) × List ℕ). (Some (head_made x.0), x.1)))
    ((head_pair laws).again (h.verdict, h.id) rest (fits.verdict, fits.id) tt)

head_spelled : Laws → (front : List ℕ) (o : Option Head) (rest : List ℕ) →
    head_in front ≡ Some (o, rest) → FitsHeads o × (front ≡ head_text o ++ rest)
unfolding head_in
head_spelled laws front o rest e =
    elim (behind (codes "-") front) as (λ b. behind (codes "-") front ≡ b →
    option_map_or {T = List ℕ} {U = Option (Option Head × List ℕ)} (λ more. Some (None, more)) b
    (made (λ (x : ℕ × ℕ). Some (head_made x)) (both (field digits.decimal) (field digits.decimal))
    front) ≡ Some (o, rest) → FitsHeads o × (front ≡ head_text o ++ rest)) [
      | None ↦ λ is f.
          let x = map_some (λ (y : (ℕ × ℕ) × List ℕ). (Some (head_made y.0), y.1))
          (both (field digits.decimal) (field digits.decimal) front) (o, rest) f in
          let s = (head_pair laws).spelled front (x.0).0 (x.0).1 x.1 in
          subst (λ (p : Option Head × List ℕ). FitsHeads p.0 × (front ≡ head_text p.0 ++ p.1)) x.2
          (record { verdict = (s.0).0; id = (s.0).1 }, s.1)
      | Some more ↦ λ is f.
          subst (λ (p : Option Head × List ℕ). FitsHeads p.0 × (front ≡ head_text p.0 ++ p.1))
          (same_Some (None, more) (o, rest) f)
          (tt, behind_some (codes "-") front more is)
    ] refl e

head_line : Laws → (o : Option Head) → FitsHeads o → cut_at 10 (head_text o) ≡ None
head_line laws None fits = refl
head_line laws (Some h) fits =
    (head_pair laws).one_line (h.verdict, h.id) (fits.verdict, fits.id)

head_field : Laws → IsField head_in head_text FitsHeads Any
head_field laws = record {
  again = λ x rest fits any. head_again laws x rest fits;
  spelled = head_spelled laws;
  one_line = head_line laws;
}

-- ---- parts that may be missing

number_part : Laws → (name : List ℕ) → cut_at 32 name ≡ None → cut_at 10 name ≡ None →
    IsField (part name (field digits.decimal)) (part_text name number_text)
    (λ o. IfSome o IsWide) (NotBehind name)
number_part laws name a b =
    part_is name (field digits.decimal) number_text IsWide a b (number_field laws)

last_part : Laws → (name : List ℕ) → cut_at 32 name ≡ None → cut_at 10 name ≡ None →
    ((z : List ℕ) → NotBehind name (61 ∷ 32 ∷ z)) →
    IsField (part name (field digits.decimal)) (part_text name number_text)
    (λ o. IfSome o IsWide) BeforeEquals
last_part laws name a b other =
    weaker (part name (field digits.decimal)) (part_text name number_text) (λ o. IfSome o IsWide)
    (NotBehind name) BeforeEquals (number_part laws name a b)
    (λ rest before. equals_apart name rest other before)

abbrev flags_read : List ℕ → Option ((Option ℕ × Option ℕ) × List ℕ)
flags_read = both (part (codes "flags") (field digits.decimal))
    (part (codes "mask") (field digits.decimal))

abbrev flags_text : (Option ℕ × Option ℕ) → List ℕ
flags_text p = part_text (codes "flags") number_text p.0 ++ part_text (codes "mask") number_text p.1

abbrev FitsFlags : (Option ℕ × Option ℕ) → Type 0
FitsFlags p = IfSome p.0 IsWide × IfSome p.1 IsWide

flags_field : Laws → IsField flags_read flags_text FitsFlags BeforeEquals
flags_field laws =
    both_is (part (codes "flags") (field digits.decimal))
    (part (codes "mask") (field digits.decimal)) (part_text (codes "flags") number_text)
    (part_text (codes "mask") number_text) (λ o. IfSome o IsWide) (λ o. IfSome o IsWide)
    (NotBehind (codes "flags")) BeforeEquals (number_part laws (codes "flags") refl refl)
    (last_part laws (codes "mask") refl refl (λ z. refl))
    (λ y rest fits before. apart (codes "flags") (codes "mask") number_text y rest (λ z. refl)
    (equals_apart (codes "flags") rest (λ z. refl) before))

-- a name that none of the two parts has
flags_apart : (name rest : List ℕ) (p : Option ℕ × Option ℕ) →
    ((z : List ℕ) → NotBehind name (codes "flags " ++ z)) →
    ((z : List ℕ) → NotBehind name (codes "mask " ++ z)) →
    ((z : List ℕ) → NotBehind name (61 ∷ 32 ∷ z)) → BeforeEquals rest →
    NotBehind name (flags_text p ++ rest)
flags_apart name rest p a b c before =
    ap (behind name) (append_assoc (part_text (codes "flags") number_text p.0)
    (part_text (codes "mask") number_text p.1) rest)
    ∙ apart name (codes "flags") number_text p.0 _ a
    (apart name (codes "mask") number_text p.1 rest b (equals_apart name rest c before))

abbrev Lengths : Type 0
Lengths = Option ℕ × (Option ℕ × Option ℕ)

abbrev lengths_read : List ℕ → Option (Lengths × List ℕ)
lengths_read = both (part (codes "maxlen") (field digits.decimal)) flags_read

abbrev lengths_text : Lengths → List ℕ
lengths_text p = part_text (codes "maxlen") number_text p.0 ++ flags_text p.1

abbrev FitsLengths : Lengths → Type 0
FitsLengths p = IfSome p.0 IsWide × FitsFlags p.1

lengths_field : Laws → IsField lengths_read lengths_text FitsLengths BeforeEquals
lengths_field laws =
    both_is (part (codes "maxlen") (field digits.decimal)) flags_read
    (part_text (codes "maxlen") number_text) flags_text (λ o. IfSome o IsWide) FitsFlags
    (NotBehind (codes "maxlen")) BeforeEquals (number_part laws (codes "maxlen") refl refl)
    (flags_field laws) (λ y rest fits before. flags_apart (codes "maxlen") rest y (λ z. refl)
    (λ z. refl) (λ z. refl) before)

lengths_apart : (name rest : List ℕ) (p : Lengths) →
    ((z : List ℕ) → NotBehind name (codes "maxlen " ++ z)) →
    ((z : List ℕ) → NotBehind name (codes "flags " ++ z)) →
    ((z : List ℕ) → NotBehind name (codes "mask " ++ z)) →
    ((z : List ℕ) → NotBehind name (61 ∷ 32 ∷ z)) → BeforeEquals rest →
    NotBehind name (lengths_text p ++ rest)
lengths_apart name rest p a b c d before =
    ap (behind name) (append_assoc (part_text (codes "maxlen") number_text p.0) (flags_text p.1)
    rest)
    ∙ apart name (codes "maxlen") number_text p.0 _ a (flags_apart name rest p.1 b c d before)

abbrev Settings : Type 0
Settings = Option Params × Lengths

abbrev settings_read : List ℕ → Option (Settings × List ℕ)
settings_read = both (part (codes "params") params_in) lengths_read

abbrev settings_text : Settings → List ℕ
settings_text p = part_text (codes "params") params_text p.0 ++ lengths_text p.1

abbrev FitsSettings : Settings → Type 0
FitsSettings p = IfSome p.0 FitsParams × FitsLengths p.1

settings_field : Laws → IsField settings_read settings_text FitsSettings BeforeEquals
settings_field laws =
    both_is (part (codes "params") params_in) lengths_read
    (part_text (codes "params") params_text) lengths_text (λ o. IfSome o FitsParams) FitsLengths
    (NotBehind (codes "params")) BeforeEquals
    (part_is (codes "params") params_in params_text FitsParams refl refl (params_field laws))
    (lengths_field laws) (λ y rest fits before. lengths_apart (codes "params") rest y (λ z. refl)
    (λ z. refl) (λ z. refl) (λ z. refl) before)

settings_apart : (rest : List ℕ) (p : Settings) → BeforeEquals rest →
    NotBehind (codes "cmd") (settings_text p ++ rest)
settings_apart rest p before =
    ap (behind (codes "cmd")) (append_assoc (part_text (codes "params") params_text p.0)
    (lengths_text p.1) rest)
    ∙ apart (codes "cmd") (codes "params") params_text p.0 _ (λ z. refl)
    (lengths_apart (codes "cmd") rest p.1 (λ z. refl) (λ z. refl) (λ z. refl) (λ z. refl) before)

abbrev Command : Type 0
Command = Option ℕ × Settings

abbrev command_read : List ℕ → Option (Command × List ℕ)
command_read = both (part (codes "cmd") (field small)) settings_read

abbrev command_text : Command → List ℕ
command_text p = part_text (codes "cmd") number_text p.0 ++ settings_text p.1

abbrev FitsCommand : Command → Type 0
FitsCommand p = IfSome p.0 IsSmall × FitsSettings p.1

command_field : Laws → IsField command_read command_text FitsCommand BeforeEquals
command_field laws =
    both_is (part (codes "cmd") (field small)) settings_read (part_text (codes "cmd") number_text)
    settings_text (λ o. IfSome o IsSmall) FitsSettings (NotBehind (codes "cmd")) BeforeEquals
    (part_is (codes "cmd") (field small) number_text IsSmall refl refl (small_field laws))
    (settings_field laws) (λ y rest fits before. settings_apart rest y before)

abbrev config_read : List ℕ → Option ((ℕ × Command) × List ℕ)
config_read = both (field half) command_read

abbrev config_text : (ℕ × Command) → List ℕ
config_text p = number_text p.0 ++ command_text p.1

abbrev FitsConfigs : (ℕ × Command) → Type 0
FitsConfigs p = IsHalf p.0 × FitsCommand p.1

config_field : Laws → IsField config_read config_text FitsConfigs BeforeEquals
config_field laws =
    both_is (field half) command_read number_text command_text IsHalf FitsCommand Any BeforeEquals
    (half_field laws) (command_field laws) (λ y rest fits before. tt)

-- ---- the priority that a request sets

abbrev pub new_priority_text : Version → Option ℕ → List ℕ
new_priority_text First o = []
new_priority_text Second o = part_text (codes "priority") number_text o

new_priority_field : (v : Version) → Laws →
    IsField (new_priority_in v) (new_priority_text v) (FitsNewPriority v) BeforeEquals
new_priority_field First laws = record {
  again = λ x rest fits before. ap (λ (o : Option ℕ). Some (o, rest)) (sym fits);
  spelled = λ front x rest e.
      let parts = some_pair_parts {A = Option ℕ} None x front rest e in (sym parts.0, parts.1);
  one_line = λ x fits. refl;
}
new_priority_field Second laws = last_part laws (codes "priority") refl refl (λ z. refl)

-- a name that it doesn't have
priority_apart : (v : Version) (name rest : List ℕ) (o : Option ℕ) →
    ((z : List ℕ) → NotBehind name (codes "priority " ++ z)) →
    ((z : List ℕ) → NotBehind name (61 ∷ 32 ∷ z)) → BeforeEquals rest →
    NotBehind name (new_priority_text v o ++ rest)
priority_apart First name rest o a b before = equals_apart name rest b before
priority_apart Second name rest o a b before =
    apart name (codes "priority") number_text o rest a (equals_apart name rest b before)

-- ---- verdicts and batches

abbrev headed_read : List ℕ → Option ((ℕ × Option Head) × List ℕ)
headed_read = both (field half) head_in

abbrev headed_text : (ℕ × Option Head) → List ℕ
headed_text p = number_text p.0 ++ head_text p.1

abbrev FitsHeaded : (ℕ × Option Head) → Type 0
FitsHeaded p = IsHalf p.0 × FitsHeads p.1

headed_field : Laws → IsField headed_read headed_text FitsHeaded Any
headed_field laws =
    both_is (field half) head_in number_text head_text IsHalf FitsHeads Any Any (half_field laws)
    (head_field laws) (λ y rest fits any. tt)

abbrev Change : Type 0
Change = Option (List ℕ) × Option ℕ

abbrev change_read : Version → List ℕ → Option (Change × List ℕ)
change_read v = both (part (codes "payload") (field bytes_in)) (new_priority_in v)

abbrev change_text : Version → Change → List ℕ
change_text v p = part_text (codes "payload") bytes_text p.0 ++ new_priority_text v p.1

abbrev FitsChange : Version → Change → Type 0
FitsChange v p = IfSome p.0 IsBytes × FitsNewPriority v p.1

change_field : (v : Version) → Laws →
    IsField (change_read v) (change_text v) (FitsChange v) BeforeEquals
change_field v laws =
    both_is (part (codes "payload") (field bytes_in)) (new_priority_in v)
    (part_text (codes "payload") bytes_text) (new_priority_text v) (λ o. IfSome o IsBytes)
    (FitsNewPriority v) (NotBehind (codes "payload")) BeforeEquals
    (part_is (codes "payload") (field bytes_in) bytes_text IsBytes refl refl (bytes_field laws))
    (new_priority_field v laws) (λ y rest fits before.
    priority_apart v (codes "payload") rest y (λ z. refl) (λ z. refl) before)

change_apart : (v : Version) (rest : List ℕ) (p : Change) → BeforeEquals rest →
    NotBehind (codes "mark") (change_text v p ++ rest)
change_apart v rest p before =
    ap (behind (codes "mark")) (append_assoc (part_text (codes "payload") bytes_text p.0)
    (new_priority_text v p.1) rest)
    ∙ apart (codes "mark") (codes "payload") bytes_text p.0 _ (λ z. refl)
    (priority_apart v (codes "mark") rest p.1 (λ z. refl) (λ z. refl) before)

-- a mark, and what stands behind it
abbrev Marked : Type 0 → Type 0
Marked P = Option ℕ × P

abbrev marked_read : {P : Type 0} → (List ℕ → Option (P × List ℕ)) →
    List ℕ → Option (Marked P × List ℕ)
marked_read read = both (part (codes "mark") (field digits.decimal)) read

abbrev marked_text : {P : Type 0} → (P → List ℕ) → Marked P → List ℕ
marked_text text p = part_text (codes "mark") number_text p.0 ++ text p.1

abbrev FitsMarked : {P : Type 0} → (P → Type 0) → Marked P → Type 0
FitsMarked Fits p = IfSome p.0 IsWide × Fits p.1

-- the same behind a queue and a verdict header
abbrev judged_read : {P : Type 0} → (List ℕ → Option (P × List ℕ)) →
    List ℕ → Option (((ℕ × Option Head) × Marked P) × List ℕ)
judged_read read = both headed_read (marked_read read)

abbrev judged_text : {P : Type 0} → (P → List ℕ) → ((ℕ × Option Head) × Marked P) → List ℕ
judged_text text p = headed_text p.0 ++ marked_text text p.1

abbrev FitsJudged : {P : Type 0} → (P → Type 0) → ((ℕ × Option Head) × Marked P) → Type 0
FitsJudged Fits p = FitsHeaded p.0 × FitsMarked Fits p.1

judged_field : {P : Type 0} (read : List ℕ → Option (P × List ℕ)) (text : P → List ℕ)
    (Fits : P → Type 0) → Laws →
    IsField read text Fits BeforeEquals →
    ((rest : List ℕ) (p : P) → BeforeEquals rest → NotBehind (codes "mark") (text p ++ rest)) →
    IsField (judged_read read) (judged_text text) (FitsJudged Fits) BeforeEquals
judged_field {P} read text Fits laws is apart =
    both_is headed_read (marked_read read) headed_text (marked_text text) FitsHeaded
    (FitsMarked Fits) Any BeforeEquals (headed_field laws)
    (both_is (part (codes "mark") (field digits.decimal)) read
    (part_text (codes "mark") number_text) text (λ o. IfSome o IsWide) Fits
    (NotBehind (codes "mark")) BeforeEquals (number_part laws (codes "mark") refl refl) is
    (λ y rest fits before. apart rest y before)) (λ y rest fits before. tt)

verdict_field : (v : Version) → Laws → IsField (judged_read (change_read v))
    (judged_text (change_text v)) (FitsJudged (FitsChange v)) BeforeEquals
verdict_field v laws =
    judged_field (change_read v) (change_text v) (FitsChange v) laws (change_field v laws)
    (change_apart v)

batch_field : (v : Version) → Laws → IsField (judged_read (new_priority_in v))
    (judged_text (new_priority_text v)) (FitsJudged (FitsNewPriority v)) BeforeEquals
batch_field v laws =
    judged_field (new_priority_in v) (new_priority_text v) (FitsNewPriority v) laws
    (new_priority_field v laws)
    (λ rest p before. priority_apart v (codes "mark") rest p (λ z. refl) (λ z. refl) before)

-- ---- requests

-- a request's words, each with the blank behind it
abbrev pub request_text : Version → Request → List ℕ
request_text v (Config q c p l f m) = codes "config " ++ config_text (q, (c, (p, (l, (f, m)))))
request_text v (Verdict q h m b n) =
    codes "verdict " ++ judged_text (change_text v) ((q, h), (m, (b, n)))
request_text v (Batch q h m n) = codes "batch " ++ judged_text (new_priority_text v) ((q, h), (m, n))

request_again : (v : Version) → Laws → (r : Request) (rest : List ℕ) → FitsRequest v r →
    BeforeEquals rest → request_in v (request_text v r ++ rest) ≡ Some (r, rest)
unfolding request_in request_by config_in verdict_in batch_in
request_again v laws (Config q c p l f m) rest fits before =
    ap (option_map (λ (x : (ℕ × Command) × List ℕ). (config_made x.0, x.1)))
    ((config_field laws).again (q, (c, (p, (l, (f, m))))) rest (
      fits.queue_fits,
      (
        fits.command_fits,
        (
          fits.params_fit,
          (
            fits.maxlen_fits,
            (
              fits.flags_fits,
              fits.mask_fits,
            ),
          ),
        ),
      ),
    ) before)
request_again v laws (Verdict q h m b n) rest fits before =
    ap (option_map (λ (x : ((ℕ × Option Head) × Marked Change) × List ℕ). (verdict_made x.0, x.1)))
    ((verdict_field v laws).again ((q, h), (m, (b, n))) rest (
      (fits.queue_fits, fits.head_fits),
      (fits.mark_fits, (fits.payload_fits, fits.priority_fits)),
    ) before)
request_again v laws (Batch q h m n) rest fits before =
    ap (option_map (λ (x : ((ℕ × Option Head) × Marked (Option ℕ)) × List ℕ). (batch_made x.0, x.1)))
    ((batch_field v laws).again ((q, h), (m, n)) rest
    ((fits.queue_fits, fits.head_fits), (fits.mark_fits, fits.priority_fits)) before)

abbrev IsRequestText : Version → List ℕ → (Request × List ℕ) → Type 0
IsRequestText v front p = FitsRequest v p.0 × (front ≡ request_text v p.0 ++ p.1)

-- a request behind its name, where what it is made of has a field's form
spelled_behind : {A : Type 0} (v : Version) (read : List ℕ → Option (A × List ℕ))
    (text : A → List ℕ) (Fits : A → Type 0) →
    IsField read text Fits BeforeEquals →
    (name : List ℕ) (made : A → Request) → ((x : A) → Fits x → FitsRequest v (made x)) →
    ((x : A) (rest : List ℕ) → name ++ 32 ∷ (text x ++ rest) ≡ request_text v (made x) ++ rest) →
    (front word more : List ℕ) (p : Request × List ℕ) → front ≡ word ++ 32 ∷ more → word ≡ name →
    option_map (λ (y : A × List ℕ). (made y.0, y.1)) (read more) ≡ Some p → IsRequestText v front p
spelled_behind {A} v read text Fits field name made fits told front word more p is named e =
    let x = map_some (λ (y : A × List ℕ). (made y.0, y.1)) (read more) p e in
    let s = field.spelled more (x.0).0 (x.0).1 x.1 in
    subst (IsRequestText v front) x.2 (
      fits (x.0).0 s.0,
      is ∙ ap (λ z. z ++ 32 ∷ more) named ∙ ap (λ z. name ++ 32 ∷ z) s.1 ∙ told (x.0).0 (x.0).1,
    )

request_by_spelled : (v : Version) → Laws → (front word more : List ℕ) (p : Request × List ℕ) →
    front ≡ word ++ 32 ∷ more → request_by v word more ≡ Some p → IsRequestText v front p
unfolding request_by config_in verdict_in batch_in
request_by_spelled v laws front word more p is e =
    pick word (codes "config") _ _ p (IsRequestText v front p) e
    (spelled_behind v _ _ _ (config_field laws) (codes "config") config_made (λ x t. record {
      queue_fits = t.0;
      command_fits = (t.1).0;
      params_fit = ((t.1).1).0;
      maxlen_fits = (((t.1).1).1).0;
      flags_fits = ((((t.1).1).1).1).0;
      mask_fits = ((((t.1).1).1).1).1;
    }) (λ x rest. refl) front word more p is)
    (λ g. pick word (codes "verdict") _ _ p (IsRequestText v front p) g
    (spelled_behind v _ _ _ (verdict_field v laws) (codes "verdict") verdict_made (λ x t. record {
      queue_fits = (t.0).0;
      head_fits = (t.0).1;
      mark_fits = (t.1).0;
      payload_fits = ((t.1).1).0;
      priority_fits = ((t.1).1).1;
    }) (λ x rest. refl) front word more p is)
    (λ h. pick word (codes "batch") _ _ p (IsRequestText v front p) h
    (spelled_behind v _ _ _ (batch_field v laws) (codes "batch") batch_made (λ x t. record {
      queue_fits = (t.0).0;
      head_fits = (t.0).1;
      mark_fits = (t.1).0;
      payload_fits = tt;
      priority_fits = (t.1).1;
    }) (λ x rest. refl) front word more p is)
    (λ i. absurd (none-some p i))))

request_spelled : (v : Version) → Laws → (front : List ℕ) (r : Request) (rest : List ℕ) →
    request_in v front ≡ Some (r, rest) → FitsRequest v r × (front ≡ request_text v r ++ rest)
unfolding request_in
request_spelled v laws front r rest e =
    let cut = bind_some (cut_at 32 front) _ (r, rest) e in
    request_by_spelled v laws front (cut.0).0 (cut.0).1 (r, rest) (cut_some 32 front cut.0 cut.1)
    cut.2

request_line : (v : Version) → Laws → (r : Request) → FitsRequest v r →
    cut_at 10 (request_text v r) ≡ None
request_line v laws (Config q c p l f m) fits =
    uncut_append 10 (codes "config ") (config_text (q, (c, (p, (l, (f, m)))))) refl
    ((config_field laws).one_line (q, (c, (p, (l, (f, m))))) (
      fits.queue_fits,
      (
        fits.command_fits,
        (
          fits.params_fit,
          (
            fits.maxlen_fits,
            (
              fits.flags_fits,
              fits.mask_fits,
            ),
          ),
        ),
      ),
    ))
request_line v laws (Verdict q h m b n) fits =
    uncut_append 10 (codes "verdict ") (judged_text (change_text v) ((q, h), (m, (b, n)))) refl
    ((verdict_field v laws).one_line ((q, h), (m, (b, n))) (
      (fits.queue_fits, fits.head_fits),
      (fits.mark_fits, (fits.payload_fits, fits.priority_fits)),
    ))
request_line v laws (Batch q h m n) fits =
    uncut_append 10 (codes "batch ") (judged_text (new_priority_text v) ((q, h), (m, n))) refl
    ((batch_field v laws).one_line ((q, h), (m, n))
    ((fits.queue_fits, fits.head_fits), (fits.mark_fits, fits.priority_fits)))

pub request_field : (v : Version) → Laws →
    IsField (request_in v) (request_text v) (FitsRequest v) BeforeEquals
request_field v laws = record {
  again = request_again v laws;
  spelled = request_spelled v laws;
  one_line = request_line v laws;
}
