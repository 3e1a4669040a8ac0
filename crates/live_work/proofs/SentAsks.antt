-- A port sends what is asked for: the words of an ask, and one ask after the other.
use Rattle.std.proofs.Common.{◌≡◌, ◌∙◌, ◌∷◌, ℕ, Bool, List, ap, false}
use Rattle.std.proofs.Common.{subst, sym, true}
use Rattle.std.specs.Prelude.{All, Err, Ok, OnOk, Result, is_err}
use Rattle.std.proofs.lemmas.List.Elements.{All-head, All-tail}
use Rattle.packet_moves.specs.Calls.{after_this, next_call, sent_in}
use Rattle.histories.specs.declared.log.AskWords.{AskWords}
use Rattle.script_lines.specs.Limits.{IsAsk, IsWords}
use Rattle.script_lines.specs.declared.ask.Ask.{Ask}
use Rattle.script_lines.specs.declared.ask.Ask.TheVariants.{Words}
use Rattle.inspector_script.specs.Scripts.{ScriptValue}
use Rattle.run_parts.specs.Datagrams.{bytes_of, messages_in}
use Rattle.run_parts.specs.Log.{Due, Note, Still}
use Rattle.port_scripts.specs.Words.{AreWords}
use Rattle.live_runs.specs.Doing.{HasAsked, HasSent, IsCutting, IsDoing}
use Rattle.live_runs.specs.Passes.{Pass}
use Rattle.live_runs.specs.Stages.{Stage}
use Rattle.live_runs.specs.Stands.{Side, cut_then, side}
use Rattle.live_work.specs.Sending.{HasCut, Says, SaysTo}

-- what follows from a call that went well
pub on_ok : {X E : Type 0} (r : Result X E) (P Q : Type 0) → (P → Q) → OnOk r P → OnOk r Q
on_ok (Ok x) P Q so is = so is
on_ok (Err e) P Q so is = tt

-- ---- the words of an ask

abbrev pub TakesUpLaw : Type 0
TakesUpLaw = (workers : ℕ) (script : ScriptValue) (places : ℕ) (stage : Stage) (port : ℕ)
    (was : List Note) (start : Pass) (x : Side) (words : AskWords) (ds : List Due) (pass : Pass) →
    IsDoing workers script places stage port was start (side x (Still (Words words) ∷ ds)) pass →
    IsDoing workers script places stage port was start
    (cut_then x (messages_in (bytes_of port (next_call pass.dids) words)) ds) pass

abbrev pub BeginLaw : Type 0
BeginLaw = (workers : ℕ) (script : ScriptValue) (places : ℕ) (stage : Stage) (port : ℕ)
    (was : List Note) (start : Pass) (x : Side) (call : ℕ) (words : AskWords) (ds : List Due)
    (pass : Pass) → IsWords words → IsDoing workers script places stage port was start
    (cut_then x (messages_in (bytes_of port call words)) ds) pass →
    IsCutting workers script places stage port was start x (messages_in (bytes_of port call words))
    ds pass

pub says_so : TakesUpLaw → BeginLaw → (script : ScriptValue) (places port : ℕ) (bytes : List ℕ)
    (words : AskWords) (old new : Pass) → IsWords words →
    bytes ≡ bytes_of port (next_call old.dids) words →
    HasCut script places port bytes old new → Says script places port words old new
says_so takes_up begins script places port bytes words old new fit are cut = record {
  each = λ workers. record {
    on = λ stage was start x ds may doing.
        (subst (λ (l : List ℕ). HasCut script places port l old new) are cut).on workers stage was
        start x ds may
        (begins workers script places stage port was start x (next_call old.dids) words ds old fit
        (takes_up workers script places stage port was start x words ds old doing));
  };
}

-- what was put are the bytes of the port's next message
pub next_bytes : (bytes text : List ℕ) (port asked number : ℕ) (words : AskWords) (pass : Pass) →
    bytes ≡ text → text ≡ bytes_of asked (after_this number) words → asked ≡ port →
    number ≡ sent_in pass.dids → bytes ≡ bytes_of port (next_call pass.dids) words
next_bytes bytes text port asked number words pass read put same count =
    read ∙ put
    ∙ ap (λ (p : ℕ). bytes_of p (after_this number) words) same
    ∙ ap (λ (n : ℕ). bytes_of port (after_this n) words) count

-- ---- one ask after the other

abbrev pub NoAskLaw : Type 0
NoAskLaw = (workers : ℕ) (script : ScriptValue) (places port : ℕ) (asks : List Ask)
    (pass : Pass) → HasAsked workers script places port asks asks pass pass

abbrev pub NextAskLaw : Type 0
NextAskLaw = (workers : ℕ) (script : ScriptValue) (places port : ℕ) (asks left : List Ask)
    (words : AskWords) (old mid new : Pass) →
    HasAsked workers script places port asks (Words words ∷ left) old mid →
    HasSent workers script places port words mid new →
    HasAsked workers script places port asks left old new

-- the next of them are words
pub begins_so : (asks rest : List Ask) (ask : Ask) (words : AskWords) → asks ≡ ask ∷ rest →
    ask ≡ Words words → asks ≡ Words words ∷ rest
begins_so asks rest ask words steps is = steps ∙ ap (λ (a : Ask). a ∷ rest) is

pub said_on : NextAskLaw → (script : ScriptValue) (places port : ℕ) (asks left rest : List Ask)
    (words : AskWords) (begun old new : Pass) → left ≡ Words words ∷ rest →
    SaysTo script places port asks left begun old → Says script places port words old new →
    SaysTo script places port asks rest begun new
said_on law script places port asks left rest words begun old new steps so_far says = record {
  each = λ workers. law workers script places port asks rest words begun old new
      (subst (λ (l : List Ask). HasAsked workers script places port asks l begun old) steps
      (so_far.each workers)) (says.each workers);
}

pub words_on : (left rest : List Ask) (words : AskWords) → left ≡ Words words ∷ rest →
    AreWords left → AreWords rest
words_on left rest words steps are = subst (λ (l : List Ask). AreWords l) steps are

pub next_fits : (left rest : List Ask) (words : AskWords) → left ≡ Words words ∷ rest →
    All IsAsk left → IsWords words
next_fits left rest words steps fit =
    All-head IsAsk (Words words) rest (subst (λ (l : List Ask). All IsAsk l) steps fit)

pub rest_fits : (left rest : List Ask) (words : AskWords) → left ≡ Words words ∷ rest →
    All IsAsk left → All IsAsk rest
rest_fits left rest words steps fit =
    All-tail IsAsk (Words words) rest (subst (λ (l : List Ask). All IsAsk l) steps fit)

-- what a call promises where it went well, by whether it failed
pub went_well : {X E : Type 0} (r : Result X E) (failed : Bool) (P : Type 0) →
    failed ≡ is_err r → failed ≡ false → OnOk r P → P
went_well (Ok x) failed P is well on = on
went_well (Err e) failed P is well on = let wrong : true ≡ false = sym is ∙ well in absurd (cc)
