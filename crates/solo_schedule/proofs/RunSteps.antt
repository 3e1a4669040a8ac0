-- How a run goes, with what each port did told in full. Each move of a run keeps some knowledge;
-- then the whole run keeps it, and each port does what is next.
use Rattle.std.proofs.Common.{◌≡◌, ◌⊎◌, ◌∙◌, ℕ, List, [], ◌∷◌, ◌++◌}
use Rattle.std.proofs.Common.{Option, Some, None, Bool, true, false, refl, sym, ap, subst, inl, inr}
use Rattle.std.specs.Prelude.{map, not, ◌==◌, nat_eq, if◌then◌else◌, option_map}
use Rattle.std.specs.List.{list_any}
use Rattle.std.proofs.lemmas.Bool.{eq-eqb, eqb-true, cases_Bool}
use Rattle.packet_entry.specs.declared.packet.Card.{Card}
use Rattle.packet_entry.specs.declared.letter.Letter.{Letter}
use Rattle.queue_core.specs.State.{Bound}
use Rattle.queue_core.specs.Step.{Way}
use Rattle.histories.specs.Journeys.{Arrival}
use Rattle.inspector_script.specs.Scripts.{ScriptValue}
use Rattle.packet_moves.specs.World.{Port, changed_at, delivered}
use Rattle.packet_moves.specs.Moving.{with_notice}
use Rattle.run_parts.specs.Closing.{is_closed}
use Rattle.run_parts.specs.Requests.{Plea, pleas_told}
use Rattle.run_parts.specs.Order.{kind_at, kinds_from}
use Rattle.run_parts.specs.Log.{Note, Due, Standing, logged}
use Rattle.run_parts.specs.Log.{start, after}
use Rattle.run_parts.specs.Log.{IsNext, AreNextFrom, standing_from, standing}

-- ---- how a log goes on

pub record LogLaws : Type 0 where
  pub next : (script : ScriptValue) (place port : ℕ) (t : Standing) (notes : List Note)
      (n : Note) → AreNextFrom 1 script place port t notes →
      IsNext 1 (standing_from 1 script place port t notes) n →
      AreNextFrom 1 script place port t (notes ++ n ∷ [])
  pub stands : (script : ScriptValue) (place port : ℕ) (t : Standing) (notes : List Note)
      (n : Note) → standing_from 1 script place port t (notes ++ n ∷ [])
      ≡ after 1 script place port (standing_from 1 script place port t notes) n
  pub logged : (script : ScriptValue) (place port : ℕ) (t : Standing) (notes : List Note) →
      (standing_from 1 script place port t notes).dids ≡ t.dids ++ logged port notes
  pub closed : (script : ScriptValue) (place port : ℕ) (t : Standing) (notes : List Note) →
      list_any is_closed t.dids ≡ not t.is_open →
      list_any is_closed (standing_from 1 script place port t notes).dids
      ≡ not (standing_from 1 script place port t notes).is_open
  pub kinds : (script : ScriptValue) (place port queue : ℕ) (t : Standing) (notes : List Note)
      (n : Note) → kinds_from 1 script place queue port t (notes ++ n ∷ [])
      ≡ kinds_from 1 script place queue port t notes
      ++ map (λ (x : Plea). kind_at (standing_from 1 script place port t notes))
      (pleas_told queue n)

-- ---- where a port stands in a run

-- what is known of a port that is there: what it owes, what its end has, whether it is open, and
-- whether it has just taken up an ask
pub record Stand : Type 0 where
  pub owed : List Due
  pub ends : List Due
  pub is_open : Bool
  pub is_fresh : Bool

abbrev pub full : Port → Stand → Standing
full held t = record {
  dids = held.dids;
  owed = t.owed;
  pending = [];
  ends = t.ends;
  is_open = t.is_open;
  is_fresh = t.is_fresh;
}

pub record IsAt (script : ScriptValue) (place port : ℕ) (notes : List Note) (o : Option Port)
    (t : Stand) : Type 0 where
  pub held : Port
  pub there : o ≡ Some held
  pub next : AreNextFrom 1 script place port (start script place) notes
  pub stands : standing 1 script place port notes ≡ full held t
  pub shut : held.is_closed ≡ not t.is_open

-- it does one thing more
at_push : LogLaws → (script : ScriptValue) (place port : ℕ) (notes : List Note) (o : Option Port)
    (t u : Stand) (n : Note) (g : Port → Port) → (is : IsAt script place port notes o t) →
    IsNext 1 (full is.held t) n →
    after 1 script place port (full is.held t) n ≡ full (g is.held) u →
    (g is.held).is_closed ≡ not u.is_open →
    IsAt script place port (notes ++ n ∷ []) (option_map g o) u
at_push laws script place port notes o t u n g is may leads shut = record {
  held = g is.held;
  there = ap (option_map g) is.there;
  next = laws.next script place port (start script place) notes n is.next
      (subst (λ v. IsNext 1 v n) (sym is.stands) may);
  stands = laws.stands script place port (start script place) notes n
      ∙ ap (λ v. after 1 script place port v n) is.stands ∙ leads;
  shut = shut;
}

-- a notice that comes changes nothing of that
at_delivered : (script : ScriptValue) (place port : ℕ) (notes : List Note) (o : Option Port)
    (t : Stand) (letter : Letter) → IsAt script place port notes o t →
    IsAt script place port notes (option_map (delivered letter) o) t
at_delivered script place port notes o t letter is = record {
  held = delivered letter is.held;
  there = ap (option_map (delivered letter)) is.there;
  next = is.next;
  stands = is.stands;
  shut = is.shut;
}

-- ---- all ports

abbrev pub noted : ℕ → Note → (ℕ → List Note) → ℕ → List Note
noted port n notes p = if p == port then notes p ++ n ∷ [] else notes p

abbrev pub put : ℕ → Stand → (ℕ → Stand) → ℕ → Stand
put port t T p = if p == port then t else T p

pub put_same : (port : ℕ) (t : Stand) (T : ℕ → Stand) → put port t T port ≡ t
put_same port t T = rw (eq-eqb port port refl) refl

module _ (script : ScriptValue) (f : ℕ → ℕ) where
  abbrev pub is_in : ℕ → Bool
  is_in p = list_any (nat_eq p) script.ports

  pub record AreAt (notes : ℕ → List Note) (ports : ℕ → Option Port) (T : ℕ → Stand) : Type 0 where
    pub at : (p : ℕ) → is_in p ≡ true → IsAt script (f p) p (notes p) (ports p) (T p)

  -- a port does one thing more
  pub all_push : LogLaws → (port : ℕ) (t u : Stand) (n : Note) (g : Port → Port)
      (notes : ℕ → List Note) (ports : ℕ → Option Port) (T : ℕ → Stand) →
      AreAt notes ports (put port t T) →
      ((held : Port) → ports port ≡ Some held → held.is_closed ≡ not t.is_open →
      IsNext 1 (full held t) n
      × (after 1 script (f port) port (full held t) n ≡ full (g held) u)
      × ((g held).is_closed ≡ not u.is_open)) →
      AreAt (noted port n notes) (changed_at port g ports) (put port u T)
  all_push laws port t u n g notes ports T are may =
      record { at = λ p i. by p i (cases_Bool (p == port)) }
    where
      own : (p : ℕ) → p ≡ port → IsAt script (f p) p (notes p) (ports p) t →
          IsAt script (f p) p (notes p ++ n ∷ []) (option_map g (ports p)) u
      own p same is =
          let m = may is.held (subst (λ q. ports q ≡ Some is.held) same is.there) is.shut in
          at_push laws script (f p) p (notes p) (ports p) t u n g is m.0
          (subst (λ q. after 1 script (f q) q (full is.held t) n ≡ full (g is.held) u) (sym same)
          m.1)
          m.2

      by : (p : ℕ) → is_in p ≡ true → ((p == port) ≡ true) ⊎ ((p == port) ≡ false) →
          IsAt script (f p) p (noted port n notes p) (changed_at port g ports p) (put port u T p)
      by p i (inl h) =
          let was = are.at p i in
          rw h (own p (eqb-true p port h) (rw h at was))
      by p i (inr h) = let was = are.at p i in rw h (rw h at was)

  -- an arrival changes nothing of that
  pub all_arrive : (notes : ℕ → List Note) (T : ℕ → Stand) (o : Option Bound) (a : Arrival)
      (left : List (Card × Way)) (ports : ℕ → Option Port) → AreAt notes ports T →
      AreAt notes (with_notice o a left ports) T
  all_arrive notes T None a left ports are = are
  all_arrive notes T (Some q) a (l ∷ ls) ports are = are
  all_arrive notes T (Some q) a [] ports are =
      record { at = λ p i. by p (p == q.port) _ (are.at p i) }
    where
      by : (p : ℕ) (c : Bool) (letter : Letter) → IsAt script (f p) p (notes p) (ports p) (T p) →
          IsAt script (f p) p (notes p)
          (if c then option_map (delivered letter) (ports p) else ports p) (T p)
      by p true letter is = at_delivered script (f p) p (notes p) (ports p) (T p) letter is
      by p false letter is = is

  pub all_as : (notes : ℕ → List Note) (ports : ℕ → Option Port) (T U : ℕ → Stand) →
      AreAt notes ports T → ((p : ℕ) → is_in p ≡ true → T p ≡ U p) → AreAt notes ports U
  all_as notes ports T U are same = record {
    at = λ p i. subst (IsAt script (f p) p (notes p) (ports p)) (same p i) (are.at p i);
  }
