-- Lists whose entries are marked as one's own or not.
use Rattle.std.proofs.Common.{◌++◌, ◌∙◌, ◌∷◌, ◌≡◌, Bool, List, [], ap, append-nil, append_assoc}
use Rattle.std.proofs.Common.{false, refl, subst, sym, true, ℕ}
use Rattle.std.specs.Prelude.{if◌then◌else◌}
use Rattle.histories.specs.History.{history, is_of}
use Rattle.histories.specs.declared.entry.Entry.{Entry}
use Rattle.live_runs.specs.Calls.{IsTurn}
use Rattle.live_runs.specs.Seen.{EachIs, Grows, IsNone, Ours, OursAre, Seen, Theirs, TheirsAre}
use Rattle.live_runs.specs.Seen.{all_ours, all_theirs, entries, entry}

pub entries_append : (xs ys : List Seen) → entries (xs ++ ys) ≡ entries xs ++ entries ys
entries_append [] ys = refl
entries_append (x ∷ xs) ys = ap (λ es. entry x ∷ es) (entries_append xs ys)

pub entries_ours : (es : List Entry) → entries (all_ours es) ≡ es
entries_ours [] = refl
entries_ours (e ∷ es) = ap (λ fs. e ∷ fs) (entries_ours es)

pub entries_theirs : (es : List Entry) → entries (all_theirs es) ≡ es
entries_theirs [] = refl
entries_theirs (e ∷ es) = ap (λ fs. e ∷ fs) (entries_theirs es)

-- a guard of a longer list is one of its front, and of its rest
pub theirs_front : (Q : Entry → Type 0) (xs ys : List Seen) → TheirsAre Q (xs ++ ys) →
    TheirsAre Q xs
theirs_front Q [] ys are = tt
theirs_front Q (Ours e ∷ xs) ys are = theirs_front Q xs ys are
theirs_front Q (Theirs e ∷ xs) ys are = (are.0, theirs_front Q xs ys are.1)

pub theirs_rest : (Q : Entry → Type 0) (xs ys : List Seen) → TheirsAre Q (xs ++ ys) →
    TheirsAre Q ys
theirs_rest Q [] ys are = are
theirs_rest Q (Ours e ∷ xs) ys are = theirs_rest Q xs ys are
theirs_rest Q (Theirs e ∷ xs) ys are = theirs_rest Q xs ys are.1

pub each_theirs : (Q : Entry → Type 0) (es : List Entry) → TheirsAre Q (all_theirs es) → EachIs Q es
each_theirs Q [] are = tt
each_theirs Q (e ∷ es) are = (are.0, each_theirs Q es are.1)

-- what holds of one's own and of the others', holds of each
pub each_of_both : (Q : Entry → Type 0) (xs : List Seen) → OursAre Q xs → TheirsAre Q xs →
    EachIs Q (entries xs)
each_of_both Q [] ours theirs = tt
each_of_both Q (Ours e ∷ xs) ours theirs = (ours.0, each_of_both Q xs ours.1 theirs)
each_of_both Q (Theirs e ∷ xs) ours theirs = (theirs.0, each_of_both Q xs ours theirs.1)

-- what holds of none holds of any
pub none_is : (Q : Entry → Type 0) (e : Entry) → IsNone e → Q e
none_is Q e wrong = absurd wrong

pub ours_as : (P Q : Entry → Type 0) → ((e : Entry) → P e → Q e) → (xs : List Seen) →
    OursAre P xs → OursAre Q xs
ours_as P Q so [] are = tt
ours_as P Q so (Ours e ∷ xs) are = (so e are.0, ours_as P Q so xs are.1)
ours_as P Q so (Theirs e ∷ xs) are = ours_as P Q so xs are

pub theirs_as : (P Q : Entry → Type 0) → ((e : Entry) → P e → Q e) → (xs : List Seen) →
    TheirsAre P xs → TheirsAre Q xs
theirs_as P Q so [] are = tt
theirs_as P Q so (Ours e ∷ xs) are = theirs_as P Q so xs are
theirs_as P Q so (Theirs e ∷ xs) are = (so e are.0, theirs_as P Q so xs are.1)

pub ours_append : (Q : Entry → Type 0) (xs ys : List Seen) → OursAre Q xs → OursAre Q ys →
    OursAre Q (xs ++ ys)
ours_append Q [] ys one two = two
ours_append Q (Ours e ∷ xs) ys one two = (one.0, ours_append Q xs ys one.1 two)
ours_append Q (Theirs e ∷ xs) ys one two = ours_append Q xs ys one two

-- others' entries are none of one's own
pub nothing_ours : (Q : Entry → Type 0) (es : List Entry) → OursAre Q (all_theirs es)
nothing_ours Q [] = tt
nothing_ours Q (e ∷ es) = nothing_ours Q es

-- each that is one's own
pub ours_each : (Q : Entry → Type 0) (es : List Entry) → EachIs Q es → OursAre Q (all_ours es)
ours_each Q [] are = tt
ours_each Q (e ∷ es) are = (are.0, ours_each Q es are.1)

pub theirs_then : (Q : Entry → Type 0) (es mine : List Entry) → OursAre Q (all_ours mine) →
    OursAre Q (all_theirs es ++ all_ours mine)
theirs_then Q [] mine are = are
theirs_then Q (e ∷ es) mine are = theirs_then Q es mine are

-- ---- lists that grow

pub same_grows : (Q : Entry → Type 0) (xs ys : List Seen) → ys ≡ xs → Grows Q xs ys
same_grows Q xs ys is = record { more = []; is = is ∙ sym (append-nil xs); ours = tt }

pub met_grows : (Q : Entry → Type 0) (xs ys : List Seen) (es : List Entry) →
    ys ≡ xs ++ all_theirs es → Grows Q xs ys
met_grows Q xs ys es is = record { more = all_theirs es; is = is; ours = nothing_ours Q es }

pub grows_as : (P Q : Entry → Type 0) → ((e : Entry) → P e → Q e) → (xs ys : List Seen) →
    Grows P xs ys → Grows Q xs ys
grows_as P Q so xs ys g =
    record { more = g.more; is = g.is; ours = ours_as P Q so g.more g.ours }

pub grows_on : (Q : Entry → Type 0) (xs ys zs : List Seen) → Grows Q xs ys → Grows Q ys zs →
    Grows Q xs zs
grows_on Q xs ys zs one two = record {
  more = one.more ++ two.more;
  is = two.is ∙ ap (λ us. us ++ two.more) one.is ∙ append_assoc xs one.more two.more;
  ours = ours_append Q one.more two.more one.ours two.ours;
}

-- one's own in a list that grew
pub grown_ours : (Q : Entry → Type 0) (xs ys : List Seen) → OursAre Q xs → Grows Q xs ys →
    OursAre Q ys
grown_ours Q xs ys are g = subst (OursAre Q) (sym g.is) (ours_append Q xs g.more are g.ours)

-- ---- turns

-- the list that a turn leaves
pub turn_entries : (others mine : List Entry) (xs ys : List Seen) → IsTurn others mine xs ys →
    entries ys ≡ (entries xs ++ others) ++ mine
turn_entries others mine xs ys t =
    ap entries t.is ∙ entries_append (xs ++ all_theirs others) (all_ours mine)
    ∙ ap (λ es. es ++ entries (all_ours mine)) (entries_append xs (all_theirs others)
    ∙ ap (λ es. entries xs ++ es) (entries_theirs others))
    ∙ ap (λ es. (entries xs ++ others) ++ es) (entries_ours mine)

-- what others appended before it
pub turn_others : (Q : Entry → Type 0) (others mine : List Entry) (xs ys : List Seen) →
    IsTurn others mine xs ys → TheirsAre Q ys → EachIs Q others
turn_others Q others mine xs ys t guard =
    each_theirs Q others (theirs_rest Q xs (all_theirs others)
    (theirs_front Q (xs ++ all_theirs others) (all_ours mine) (subst (TheirsAre Q) t.is guard)))

pub turn_guard : (Q : Entry → Type 0) (others mine : List Entry) (xs ys : List Seen) →
    IsTurn others mine xs ys → TheirsAre Q ys → TheirsAre Q xs
turn_guard Q others mine xs ys t guard =
    theirs_front Q xs (all_theirs others)
    (theirs_front Q (xs ++ all_theirs others) (all_ours mine) (subst (TheirsAre Q) t.is guard))

pub turn_grows : (Q : Entry → Type 0) (others mine : List Entry) (xs ys : List Seen) →
    IsTurn others mine xs ys → OursAre Q (all_ours mine) → Grows Q xs ys
turn_grows Q others mine xs ys t are = record {
  more = all_theirs others ++ all_ours mine;
  is = t.is ∙ append_assoc xs (all_theirs others) (all_ours mine);
  ours = theirs_then Q others mine are;
}

-- ---- each entry

pub each_append : (Q : Entry → Type 0) (es fs : List Entry) → EachIs Q es → EachIs Q fs →
    EachIs Q (es ++ fs)
each_append Q [] fs one two = two
each_append Q (e ∷ es) fs one two = (one.0, each_append Q es fs one.1 two)

-- what holds of each of a longer list holds of its front, and of its rest
pub each_parts : (Q : Entry → Type 0) (es fs : List Entry) → EachIs Q (es ++ fs) →
    EachIs Q es × EachIs Q fs
each_parts Q [] fs are = (tt, are)
each_parts Q (e ∷ es) fs are = let rest = each_parts Q es fs are.1 in ((are.0, rest.0), rest.1)

pub each_as : (P Q : Entry → Type 0) → ((e : Entry) → P e → Q e) → (es : List Entry) →
    EachIs P es → EachIs Q es
each_as P Q so [] are = tt
each_as P Q so (e ∷ es) are = (so e are.0, each_as P Q so es are.1)

pub each_both : (P Q : Entry → Type 0) (es : List Entry) → EachIs P es → EachIs Q es →
    EachIs (λ e. P e × Q e) es
each_both P Q [] one two = tt
each_both P Q (e ∷ es) one two = ((one.0, two.0), each_both P Q es one.1 two.1)

pub each_history : (Q : Entry → Type 0) (queue : ℕ) (es : List Entry) → EachIs Q es →
    EachIs Q (history queue es)
each_history Q queue [] are = tt
each_history Q queue (e ∷ es) are = by (is_of queue e) (each_history Q queue es are.1)
  where
    by : (c : Bool) → EachIs Q (history queue es) →
        EachIs Q (if c then e ∷ history queue es else history queue es)
    by true more = (are.0, more)
    by false more = more
