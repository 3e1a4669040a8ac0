-- The whole run: the ports open, the frames pass, and the ports end.
use Rattle.std.proofs.Common.{◌≡◌, ◌<◌, ◌⊎◌, ◌+◌, ◌∙◌, ℕ, List, [], ◌∷◌, ◌++◌}
use Rattle.std.proofs.Common.{Option, Bool, true, false, refl, sym, ap, subst, inl, inr, suc}
use Rattle.std.proofs.Common.{arith, append-nil}
use Rattle.std.specs.Prelude.{map, not, ◌==◌, ◌||◌, nat_eq, if◌then◌else◌, slice_get, length}
use Rattle.std.specs.List.{list_any}
use Rattle.std.proofs.lemmas.Bool.{eqb-true, ne_eqb, cases_Bool}
use Rattle.std.proofs.lemmas.List.{map-append}
use Rattle.pcap_io.specs.declared.capture.Capture.{Capture}
use Rattle.hook_chain.specs.Rules.{RuleTables}
use Rattle.histories.specs.declared.log.AskWords.{AskWords}
use Rattle.script_lines.specs.declared.ask.Ask.{Ask}
use Rattle.script_lines.specs.declared.ask.Ask.TheVariants.{Words, Close}
use Rattle.inspector_script.specs.declared.block.Block.{Block}
use Rattle.inspector_script.specs.Scripts.{ScriptValue, opening, closing}
use Rattle.packet_moves.specs.declared.setting.Setting.{Setting}
use Rattle.packet_moves.specs.World.{World, Port, opened}
use Rattle.packet_moves.specs.Planes.{beginning, opened_ports}
use Rattle.run_parts.specs.Ports.{ArePlaced}
use Rattle.solo_schedule.specs.Sending.{all_done}
use Rattle.solo_schedule.specs.Schedule.{emptied_in, opened_all, all_down, frames_passed, ended_all}
use Rattle.run_parts.specs.Feeder.{downs_after}
use Rattle.solo_schedule.specs.Schedule.{before_ends, run, setting_of, rounds_for}
use Rattle.packet_moves.specs.Logs.{dids_of}
use Rattle.run_parts.specs.Log.{Note, Due, Still, Standing}
use Rattle.run_parts.specs.Log.{all_due, start, logged}
use Rattle.run_parts.specs.Log.{IsLog, unanswered}
use Rattle.run_parts.specs.Closing.{is_closed}
use Rattle.solo_schedule.proofs.ClosedPorts.{is_shut}
use Rattle.solo_schedule.proofs.RunSteps.{LogLaws}
use Rattle.solo_schedule.proofs.RunSteps.{Stand, IsAt, put, is_in}
use Rattle.solo_schedule.proofs.DueMessages.{Staged, Goes, Stage, IsOver, Now, AtEnd, side, At}
use Rattle.solo_schedule.proofs.DueMessages.{reached_as}
use Rattle.solo_schedule.proofs.DueMessages.{words_reached, close_reached}
use Rattle.solo_schedule.proofs.RunInvariant.{AllIdle, opening_words, closing_end, stays_open}
use Rattle.solo_schedule.proofs.RunInvariant.{done_append, put_own, emptied_reached}
use Rattle.solo_schedule.proofs.RunInvariant.{frames_reached, down_reached, are_after, at_time}
use Rattle.solo_schedule.proofs.RunInvariant.{later_reached, over_reached}
use Rattle.solo_schedule.proofs.LaterVisits.{LeaveAlone}
use Rattle.run_parts.specs.Feeder.{downs_in_effect}
use Rattle.script_lines.specs.declared.line.Down.{Down}

-- ---- a log's closing

pub or_false : (b c : Bool) → c ≡ false → (b || c) ≡ b
or_false true c is = refl
or_false false c is = is

pub or_true : (b : Bool) → (b || true) ≡ true
or_true true = refl
or_true false = refl

-- a log has its port's closing exactly where the port isn't open any more
pub closed_at : LogLaws → (script : ScriptValue) (place port : ℕ) (notes : List Note)
    (o : Option Port) (t : Stand) → IsAt script place port notes o t →
    list_any is_closed (logged port notes) ≡ is_shut o
closed_at laws script place port notes o t is =
    ap (list_any is_closed) (sym (laws.logged script place port (start script place) notes))
    ∙ laws.closed script place port (start script place) notes refl
    ∙ ap (λ (v : Standing). not v.is_open) is.stands
    ∙ sym is.shut ∙ ap is_shut (sym is.there)

-- ---- openings and ends

-- where a port stands that has nothing left to do
abbrev pub left_stand : Bool → Stand
left_stand stays = record { owed = []; ends = []; is_open = stays; is_fresh = false }

module _ (script : ScriptValue) (f : ℕ → ℕ) where
  -- where a port stands before it opens, once it has opened, and once it has ended
  abbrev pub unopened : ℕ → Stand
  unopened p = record {
    owed = all_due (opening script (f p));
    ends = all_due (closing script (f p));
    is_open = true;
    is_fresh = false;
  }

  abbrev pub waiting : ℕ → Stand
  waiting p = side (Now (all_due (closing script (f p)))) []

  abbrev pub ended : ℕ → Stand
  ended p = left_stand (stays_open (slice_get script.blocks (f p)))

  -- those that are still to come stand as before
  abbrev pub turning : (ℕ → Stand) → (ℕ → Stand) → List ℕ → ℕ → Stand
  turning before behind ps p = if list_any (nat_eq p) ps then before p else behind p

  apart : (p place : ℕ) (ps : List ℕ) → f p < place → ArePlaced script f place ps →
      list_any (nat_eq p) ps ≡ false
  apart p place [] less placed = refl
  apart p place (q ∷ qs) less placed =
      let differ : p ≡ q → ⊥ = λ same.
      (let at : f p ≡ place = ap f same ∙ placed.0 in absurd (omega (arith, at, less))) in
      rw (ne_eqb p q differ) (apart p (place + 1) qs (omega (arith, less)) placed.2)

  -- the first of them stands as before
  turn_first : (before behind : ℕ → Stand) (p : ℕ) (ps : List ℕ) (t : Stand) → before p ≡ t →
      (q : ℕ) → turning before behind (p ∷ ps) q ≡ put p t (turning before behind ps) q
  turn_first before behind p ps t is q = by (cases_Bool (q == p))
    where
      by : ((q == p) ≡ true) ⊎ ((q == p) ≡ false) →
          turning before behind (p ∷ ps) q ≡ put p t (turning before behind ps) q
      by (inl h) = rw h (ap before (eqb-true q p h) ∙ is)
      by (inr h) = rw h refl

  -- and then as behind
  turn_then : (before behind : ℕ → Stand) (place p : ℕ) (ps : List ℕ) (t : Stand) → f p ≡ place →
      ArePlaced script f (place + 1) ps → behind p ≡ t →
      (q : ℕ) → put p t (turning before behind ps) q ≡ turning before behind ps q
  turn_then before behind place p ps t at placed is =
      put_own p t (turning before behind ps)
      (rw (apart p (place + 1) ps (omega (arith, at)) placed) is)

  turning_idle : (ps : List ℕ) → AllIdle script f (turning waiting ended ps)
  turning_idle ps p i = by (list_any (nat_eq p) ps)
    where
      by : (c : Bool) → ((if c then waiting p else ended p).owed ≡ [])
          × ((if c then waiting p else ended p).is_fresh ≡ false)
      by true = (refl, refl)
      by false = (refl, refl)

  end_idle : (ps : List ℕ) (port : ℕ) (ds : List Due) →
      AllIdle script f (put port (side AtEnd ds) (turning waiting ended ps))
  end_idle ps port ds p i = by (p == port)
    where
      by : (c : Bool) → ((if c then side AtEnd ds else turning waiting ended ps p).owed ≡ [])
          × ((if c then side AtEnd ds else turning waiting ended ps p).is_fresh ≡ false)
      by true = (refl, refl)
      by false = turning_idle ps p i

module _ (s : Setting) (script : ScriptValue) (f : ℕ → ℕ) (P : Staged) (K : Goes s script f P) where
  -- the stage at which the port with this place opens
  abbrev pub opening_at : ℕ → Stage
  opening_at place =
      record { is_over = false; early = place; late = 0; time = 0; fallen = [] }

  open_one : (p : ℕ) (ps : List ℕ) (asks : List Ask) (b : Option Block) (w : World) →
      is_in script f p ≡ true → opening script (f p) ≡ asks →
      (all : List AskWords) → asks ≡ map Words all →
      At s script f P K (opening_at (f p)) w (turning script f (unopened script f)
      (waiting script f) (p ∷ ps)) →
      At s script f P K (opening_at (f p)) (all_done (λ v. v) s p asks w)
      (put p (waiting script f p) (turning script f (unopened script f) (waiting script f) ps))
  open_one p ps asks b w i is all words r =
      let ends = all_due (closing script (f p)) in
      let T = turning script f (unopened script f) (waiting script f) ps in
      let owes : unopened script f p ≡ side (Now ends) (all_due (map Words all) ++ []) =
      ap (λ (ds : List Due). side (Now ends) ds)
      (ap all_due (is ∙ words) ∙ sym (append-nil (all_due (map Words all)))) in
      subst (λ list. At s script f P K (opening_at (f p)) (all_done (λ v. v) s p list w)
      (put p (waiting script f p) T))
      (sym words)
      (words_reached s script f P K (opening_at (f p)) (λ v. v) T (Now ends) p (λ v ds r. r) i
      (inr (refl, refl)) all [] w
      (reached_as s script f P K (opening_at (f p)) w
      (turning script f (unopened script f) (waiting script f) (p ∷ ps))
      (put p (side (Now ends) (all_due (map Words all) ++ [])) T) r
      (λ q _. turn_first script f (unopened script f) (waiting script f) p ps
      (side (Now ends) (all_due (map Words all) ++ []))
      owes q)))

  opens_reached : (place : ℕ) (ps : List ℕ) (w : World) → ArePlaced script f place ps →
      At s script f P K (opening_at place) w
      (turning script f (unopened script f) (waiting script f) ps) →
      At s script f P K (opening_at (place + length ps)) (opened_all s script place ps w)
      (waiting script f)
  opens_reached place [] w placed r =
      later_reached s script f P K (opening_at place) (opening_at (place + 0)) (waiting script f) w
      (record { early = omega arith; late = omega arith; time = omega arith; fallen = refl }) refl r
  opens_reached place (p ∷ ps) w placed r =
      let words = opening_words (slice_get script.blocks place) in
      let v = all_done (λ v. v) s p (opening script place) w in
      let T = turning script f (unopened script f) (waiting script f) ps in
      let one : At s script f P K (opening_at place) v (put p (waiting script f p) T) =
      subst (λ k. At s script f P K (opening_at k) v (put p (waiting script f p) T)) placed.0
      (open_one p ps (opening script place) (slice_get script.blocks place) w placed.1
      (ap (opening script) placed.0) words.0 words.1
      (subst (λ k. At s script f P K (opening_at k) w
      (turning script f (unopened script f) (waiting script f) (p ∷ ps))) (sym placed.0) r)) in
      let two : At s script f P K (opening_at place) v T =
      reached_as s script f P K (opening_at place) v (put p (waiting script f p) T) T one
      (λ q _. turn_then script f (unopened script f) (waiting script f) place p ps
      (waiting script f p) placed.0 placed.2 refl q) in
      let more = opens_reached (place + 1) ps v placed.2
      (later_reached s script f P K (opening_at place) (opening_at (place + 1)) T v
      (record { early = omega arith; late = omega arith; time = omega arith; fallen = refl }) refl
      two) in
      later_reached s script f P K (opening_at (place + 1 + length ps))
      (opening_at (place + length (p ∷ ps))) (waiting script f)
      (opened_all s script (place + 1) ps v)
      (record { early = omega arith; late = omega arith; time = omega arith; fallen = refl }) refl
      more

-- a stage of the end
module _ (s : Setting) (script : ScriptValue) (f : ℕ → ℕ) (P : Staged) (K : Goes s script f P)
    (st : Stage) (over : IsOver script st) where
  -- a port's words of the end, and behind them its closing
  shut_reached : (rounds : ℕ) (p : ℕ) (stays : Bool) (T : ℕ → Stand) (w : World) →
      is_in script f p ≡ true → st.late ≡ suc (f p) →
      At s script f P K st w (put p (side AtEnd (all_due (if stays then [] else Close ∷ []))) T) →
      At s script f P K st
      (all_done (emptied_in rounds s script) s p (if stays then [] else Close ∷ []) w)
      (put p (left_stand stays) T)
  shut_reached rounds p true T w i late r = r
  shut_reached rounds p false T w i late r =
      close_reached s script f P K st T p w i (over, late) r

  end_one : ArePlaced script f 0 script.ports → (rounds : ℕ) (p : ℕ) (ps : List ℕ)
      (w : World) → is_in script f p ≡ true → st.late ≡ suc (f p) →
      At s script f P K st w (turning script f (waiting script f) (ended script f) (p ∷ ps)) →
      At s script f P K st
      (all_done (emptied_in rounds s script) s p (closing script (f p)) w)
      (put p (ended script f p) (turning script f (waiting script f) (ended script f) ps))
  end_one placed rounds p ps w i late r =
      let e = closing_end (slice_get script.blocks (f p)) in
      let stays = stays_open (slice_get script.blocks (f p)) in
      let last = if stays then [] else Close ∷ [] in
      let T = turning script f (waiting script f) (ended script f) ps in
      let behind = emptied_in rounds s script in
      let due : all_due (closing script (f p)) ≡ all_due (map Words e.all) ++ all_due last =
      ap all_due e.is ∙ map-append Still (map Words e.all) last in
      let mid = all_done behind s p (map Words e.all) w in
      subst (λ (asks : List Ask). At s script f P K st (all_done behind s p asks w)
      (put p (ended script f p) T))
      (sym e.is)
      (subst (λ (v : World). At s script f P K st v (put p (ended script f p) T))
      (sym (done_append behind s p (map Words e.all) last w))
      (shut_reached rounds p stays T mid i late
      (words_reached s script f P K st behind T AtEnd p
      (λ v ds r. emptied_reached s script f P K st over (put p (side AtEnd ds) T)
      (end_idle script f ps p ds) placed rounds v r) i (over, late) e.all (all_due last) w
      (reached_as s script f P K st w
      (turning script f (waiting script f) (ended script f) (p ∷ ps))
      (put p (side AtEnd (all_due (map Words e.all) ++ all_due last)) T) r
      (λ q _. turn_first script f (waiting script f) (ended script f) p ps
      (side AtEnd (all_due (map Words e.all) ++ all_due last))
      (ap (λ (ds : List Due). side AtEnd ds) due) q)))))

module _ (s : Setting) (script : ScriptValue) (f : ℕ → ℕ) (P : Staged) (K : Goes s script f P) where
  -- the stage at which a port ends, once so many ports have ended or are about to
  abbrev pub ending_at : ℕ → List Down → ℕ → Stage
  ending_at time fallen late = record {
    is_over = true;
    early = length script.ports;
    late = late;
    time = time;
    fallen = fallen;
  }

  ends_reached : ArePlaced script f 0 script.ports → (rounds time : ℕ) (fallen : List Down)
      (place : ℕ) (ps : List ℕ) (w : World) → ArePlaced script f place ps →
      At s script f P K (ending_at time fallen place) w
      (turning script f (waiting script f) (ended script f) ps) →
      At s script f P K (ending_at time fallen (place + length ps))
      (ended_all rounds s script place ps w) (ended script f)
  ends_reached all rounds time fallen place [] w placed r =
      later_reached s script f P K (ending_at time fallen place) (ending_at time fallen (place + 0))
      (ended script f) w
      (record { early = omega arith; late = omega arith; time = omega arith; fallen = refl }) refl r
  ends_reached all rounds time fallen place (p ∷ ps) w placed r =
      let v = all_done (emptied_in rounds s script) s p (closing script place) w in
      let st = ending_at time fallen (place + 1) in
      let T = turning script f (waiting script f) (ended script f) ps in
      let now = later_reached s script f P K (ending_at time fallen place) st
      (turning script f (waiting script f) (ended script f) (p ∷ ps)) w
      (record { early = omega arith; late = omega arith; time = omega arith; fallen = refl }) refl
      r in
      let more = ends_reached all rounds time fallen (place + 1) ps v placed.2
      (reached_as s script f P K st v (put p (ended script f p) T) T
      (subst (λ k. At s script f P K st
      (all_done (emptied_in rounds s script) s p (closing script k) w)
      (put p (ended script f p) T)) placed.0
      (end_one s script f P K st (refl, refl) all rounds p ps w placed.1
      (omega (arith, placed.0)) now))
      (λ q _. turn_then script f (waiting script f) (ended script f) place p ps
      (ended script f p) placed.0 placed.2 refl q)) in
      later_reached s script f P K (ending_at time fallen (place + 1 + length ps))
      (ending_at time fallen (place + length (p ∷ ps))) (ended script f)
      (ended_all rounds s script (place + 1) ps v)
      (record { early = omega arith; late = omega arith; time = omega arith; fallen = refl }) refl
      more

-- ---- the whole

module _ (script : ScriptValue) (tables : RuleTables) (c : Capture) (f : ℕ → ℕ) (P : Staged)
    (K : Goes (setting_of script tables) script f P) where
  -- the stage at which nothing has happened
  abbrev pub first_stage : Stage
  first_stage = opening_at (setting_of script tables) script f P K 0

  -- the last one: all `down` lines took effect that do at all
  abbrev pub last_stage : ℕ → Stage
  last_stage time = ending_at (setting_of script tables) script f P K time
      (downs_in_effect script (length c.frames)) (0 + length script.ports)

  begun : P first_stage [] (opened_ports script.ports) (λ p. []) →
      At (setting_of script tables) script f P K first_stage (beginning script.ports)
      (turning script f (unopened script f) (waiting script f) script.ports)
  begun base = record {
    notes = λ p. [];
    kept = base;
    are = record {
      at = λ p i. record {
        held = opened;
        there = rw i refl;
        next = tt;
        stands = rw i refl;
        shut = rw i refl;
      };
    };
    none = λ p out. refl;
  }

  pub record Ran : Type 0 where
    pub time : ℕ
    pub reached : At (setting_of script tables) script f P K (last_stage time)
        (run script tables c) (ended script f)

  pub run_reached : LeaveAlone → P first_stage [] (opened_ports script.ports) (λ p. []) →
      ArePlaced script f 0 script.ports → Ran
  run_reached leaves base placed =
      let s = setting_of script tables in
      let rounds = rounds_for c in
      let T = waiting script f in
      let count = length script.ports in
      let one = opened_all s script 0 script.ports (beginning script.ports) in
      let two = all_down (downs_after script 0) one in
      let three = frames_passed rounds s script c 1 c.frames two in
      let idle : AllIdle script f T = λ p i. (refl, refl) in
      let opened_up = opening_at s script f P K (0 + count) in
      let fed = at_time s script f P K in
      let at_one : At s script f P K (fed 0 []) one T =
      over_reached s script f P K opened_up (fed 0 []) T one
      (record { early = omega arith; late = omega arith; time = omega arith; fallen = refl })
      (refl, refl) idle
      (opens_reached s script f P K 0 script.ports (beginning script.ports) placed (begun base)) in
      let at_two : At s script f P K (fed 1 (downs_after script 0)) two T =
      down_reached s script f P K T 0 0 [] (downs_after script 0) one
      (are_after s script f P K 0 script.downs) (omega arith) at_one in
      let at_three = frames_reached s script f P K leaves T idle placed rounds c 1 1 c.frames
      (downs_after script 0) two (omega arith) at_two in
      let last = fed at_three.0 (downs_in_effect script (length c.frames)) in
      let at_four : At s script f P K last (before_ends script tables c) T =
      emptied_reached s script f P K last (refl, refl) T idle placed rounds three at_three.1 in
      record {
        time = at_three.0;
        reached = ends_reached s script f P K placed rounds at_three.0
            (downs_in_effect script (length c.frames)) 0 script.ports (before_ends script tables c)
            placed
            (reached_as s script f P K last (before_ends script tables c) T
            (turning script f (waiting script f) (ended script f) script.ports) at_four
            (λ p i. rw i refl));
      }

  -- then each port's log is what the script says
  pub run_dids : (st : Stage) (r : At (setting_of script tables) script f P K st
      (run script tables c) (ended script f)) → (p : ℕ) → is_in script f p ≡ true →
      dids_of ((run script tables c).ports p) ≡ logged p (r.notes p)
  run_dids st r p i =
      let here = r.are.at p i in
      ap dids_of here.there
      ∙ ap (λ (t : Standing). t.dids) (sym here.stands)
      ∙ K.log.logged script (f p) p (start script (f p)) (r.notes p)

  pub run_logged : (st : Stage) (r : At (setting_of script tables) script f P K st
      (run script tables c) (ended script f)) → (p : ℕ) → is_in script f p ≡ true →
      IsLog 1 script (f p) p (r.notes p) (dids_of ((run script tables c).ports p))
  run_logged st r p i =
      let here = r.are.at p i in
      record {
        noted = ap (map unanswered) (run_dids st r p i);
        next = here.next;
        owed = ap (λ (t : Standing). t.owed) here.stands;
        answered = ap (λ (t : Standing). t.pending) here.stands;
        ended = ap (λ (t : Standing). t.ends) here.stands;
      }
