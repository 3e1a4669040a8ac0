-- Looks, rounds and emptied mailboxes.
use Rattle.std.proofs.Common.{◌≡◌, ◌<◌, ◌+◌, ◌-◌, ◌∙◌, ℕ, zero, suc, List, [], ◌∷◌, length}
use Rattle.std.proofs.Common.{Option, Some, None, Bool, true, false, cond, refl, sym, ap, arith}
use Rattle.std.proofs.Common.{drop}
use Rattle.std.specs.Prelude.{◌||◌, nat_lt}
use Rattle.std.proofs.lemmas.Bool.{ltb-false}
use Rattle.std.proofs.lemmas.List.{drop_more}
use Rattle.packet_entry.specs.declared.letter.Letter.{Letter}
use Rattle.script_lines.specs.declared.ask.Ask.{Ask}
use Rattle.inspector_script.specs.Scripts.{ScriptValue}
use Rattle.packet_moves.specs.declared.setting.Setting.{Setting}
use Rattle.packet_moves.specs.World.{World, Port}
use Rattle.solo_plane.specs.Notices.{has_notice, AreQuiet}
use Rattle.run_parts.specs.Log.{asks_for}
use Rattle.nfqa_msgs.specs.NoticeTexts.{told_exactly}
use Rattle.solo_schedule.specs.Schedule.{Looked, looked, looked_at, letters_at, is_open_port}
use Rattle.solo_schedule.specs.Schedule.{received_in, round, emptied_in, go_on_while}
use Rattle.solo_schedule.specs.Sending.{all_done}
use Rattle.solo_run.specs.RunState.{ReceivesFirst, port_at}

abbrev some : List Ask → Option (List Ask)
some asks = Some asks

at_one : (s : Setting) (script : ScriptValue) (place port : ℕ) (letters : List Letter)
    (asks : List Ask) (old mid new : World) (before : Bool) →
    ReceivesFirst script place port letters (Some asks) old mid →
    new ≡ all_done (λ v. v) s port asks mid →
    looked_at s script place port letters (record { world = old; found = before })
    ≡ record { world = new; found = true }
at_one s script place port [] asks old mid new before is did = let wrong = is.0 in absurd (cc)
at_one s script place port (l ∷ ls) asks old mid new before is did =
    let asked : asks ≡ asks_for script place (received_in (mid.ports port)) (told_exactly l.bytes) =
    same _ _ is.0 in
    ap (λ (w : World). record {
      world = all_done (λ v. v) s port
          (asks_for script place (received_in (w.ports port)) (told_exactly l.bytes)) w;
      found = true;
    }) (sym is.1)
    ∙ ap (λ (as_ : List Ask). record { world = all_done (λ v. v) s port as_ mid; found = true })
    (sym asked)
    ∙ ap (λ (w : World). record { world = w; found = true }) (sym did)
  where
    same : (one other : List Ask) → some one ≡ some other → one ≡ other
    same one other is = cc

pub looked_one : (s : Setting) (script : ScriptValue) (place port : ℕ) (asks : List Ask)
    (old mid new : World) (before : Bool) → is_open_port (old.ports port) ≡ true →
    ReceivesFirst script place port (letters_at (old.ports port)) (Some asks) old mid →
    new ≡ all_done (λ v. v) s port asks mid →
    looked s script place port (record { world = old; found = before })
    ≡ record { world = new; found = true }
looked_one s script place port asks old mid new before open_ is did =
    rw open_ (at_one s script place port (letters_at (old.ports port))
    asks old mid new before is did)

-- a port without a notice finds none
at_none : (s : Setting) (script : ScriptValue) (place port : ℕ) (p : Option Port) (w : World)
    (before : Bool) → has_notice p ≡ false →
    cond (is_open_port p)
    (looked_at s script place port (letters_at p) (record { world = w; found = before }))
    (record { world = w; found = before })
    ≡ record { world = w; found = before }
at_none s script place port None w before none = refl
at_none s script place port (Some p) w before none =
    ap (λ (letters : List Letter). cond (is_open_port (Some p))
    (looked_at s script place port letters (record { world = w; found = before }))
    (record { world = w; found = before })) (no_letters p.letters none)
    ∙ both (is_open_port (Some p)) (record { world = w; found = before })
  where
    no_letters : (letters : List Letter) → nat_lt 0 (length letters) ≡ false → letters ≡ []
    no_letters [] h = refl
    no_letters (l ∷ ls) h = absurd (omega (arith, ltb-false 0 (length (l ∷ ls)) h))

    both : (b : Bool) (l : Looked) → cond b l l ≡ l
    both true l = refl
    both false l = refl

pub looked_none : (s : Setting) (script : ScriptValue) (place port : ℕ) (w : World)
    (before : Bool) → has_notice (w.ports port) ≡ false →
    looked s script place port (record { world = w; found = before })
    ≡ record { world = w; found = false || before }
looked_none s script place port w before none =
    at_none s script place port (w.ports port) w before none

-- a port that received nothing found none
at_nothing : (s : Setting) (script : ScriptValue) (place port : ℕ) (open_ : Bool)
    (letters : List Letter) (old new : World) (before : Bool) →
    ReceivesFirst script place port letters None old new →
    cond open_ (looked_at s script place port letters (record { world = old; found = before }))
    (record { world = old; found = before })
    ≡ record { world = new; found = before }
at_nothing s script place port true [] old new before is =
    ap (λ (w : World). record { world = w; found = before }) (sym is.1)
at_nothing s script place port false [] old new before is =
    ap (λ (w : World). record { world = w; found = before }) (sym is.1)
at_nothing s script place port open_ (l ∷ ls) old new before is = let wrong = is.0 in absurd (cc)

pub looked_nothing : (s : Setting) (script : ScriptValue) (place port : ℕ) (old new : World)
    (before : Bool) → ReceivesFirst script place port (letters_at (old.ports port)) None old new →
    looked s script place port (record { world = old; found = before })
    ≡ record { world = new; found = false || before }
looked_nothing s script place port old new before is =
    at_nothing s script place port (is_open_port (old.ports port)) (letters_at (old.ports port))
    old new before is

-- ---- rounds

pub round_on : (s : Setting) (script : ScriptValue) (place : ℕ) (w after : World)
    (found before : Bool) → place < length script.ports →
    looked s script place (port_at script place) (record { world = w; found = before })
    ≡ record { world = after; found = found || before } →
    round s script (place + 1) (drop (place + 1) script.ports)
    (record { world = after; found = found || before })
    ≡ round s script place (drop place script.ports) (record { world = w; found = before })
round_on s script place w after found before within is =
    ap (round s script (place + 1) (drop (place + 1) script.ports)) (sym is)
    ∙ sym (ap (λ (ps : List ℕ). round s script place ps (record { world = w; found = before }))
    (drop_more script.ports place 0 within))

-- ports of which none has a notice find none
pub round_quiet : (s : Setting) (script : ScriptValue) (place : ℕ) (ports : List ℕ) (w : World)
    (before : Bool) → AreQuiet w.ports →
    round s script place ports (record { world = w; found = before })
    ≡ record { world = w; found = before }
round_quiet s script place [] w before quiet = refl
round_quiet s script place (p ∷ ps) w before quiet =
    ap (round s script (place + 1) ps) (looked_none s script place p w before (quiet p))
    ∙ round_quiet s script (place + 1) ps w before quiet

-- ---- emptied

-- nothing is left to be emptied
emptied_quiet : (rounds : ℕ) (s : Setting) (script : ScriptValue) (w : World) → AreQuiet w.ports →
    emptied_in rounds s script w ≡ w
emptied_quiet zero s script w quiet = refl
emptied_quiet (suc rounds) s script w quiet =
    ap (go_on_while (emptied_in rounds s script))
    (round_quiet s script 0 script.ports w false quiet)

-- a round that ends early, as no port has a notice any more
pub round_ended_early : (s : Setting) (script : ScriptValue) (place : ℕ) (old w after : World)
    (found : Bool) → place < length script.ports →
    looked s script place (port_at script place) (record { world = w; found = found })
    ≡ record { world = after; found = true } →
    round s script place (drop place script.ports) (record { world = w; found = found })
    ≡ round s script 0 script.ports (record { world = old; found = false }) →
    AreQuiet after.ports → (rounds : ℕ) → emptied_in (suc rounds) s script old ≡ after
round_ended_early s script place old w after found within is on quiet rounds =
    ap (go_on_while (emptied_in rounds s script))
    (sym on ∙ sym (round_on s script place w after true found within is)
    ∙ round_quiet s script (place + 1) (drop (place + 1) script.ports) after true quiet)
    ∙ emptied_quiet rounds s script after quiet

one_more : (n look : ℕ) → look < n → suc (n - (look + 1)) ≡ n - look
one_more n look more = omega (arith, more)

pub emptied_on : (s : Setting) (script : ScriptValue) (n look : ℕ) (w after : World) → look < n →
    emptied_in (suc (n - (look + 1))) s script w ≡ emptied_in (n - (look + 1)) s script after →
    emptied_in (n - (look + 1)) s script after ≡ emptied_in (n - look) s script w
emptied_on s script n look w after more is =
    sym is ∙ ap (λ (k : ℕ). emptied_in k s script w) (one_more n look more)

pub emptied_all : (s : Setting) (script : ScriptValue) (n look : ℕ) (w after : World) → look < n →
    emptied_in (suc (n - (look + 1))) s script w ≡ after →
    after ≡ emptied_in (n - look) s script w
emptied_all s script n look w after more is =
    sym is ∙ ap (λ (k : ℕ). emptied_in k s script w) (one_more n look more)
