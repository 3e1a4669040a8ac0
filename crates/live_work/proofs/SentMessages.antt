-- A port sends messages by its pass: what is known after each of them.
use Rattle.std.proofs.Common.{◌≡◌, ◌<◌, ◌≤◌, ◌-◌, ◌+◌, ◌∙◌, ◌++◌, ◌∷◌, [], ℕ, List, Option, Some}
use Rattle.std.proofs.Common.{None, ap, arith, cond, drop, map, subst, sym}
use Rattle.std.proofs.lemmas.List.Sums.{sum_by-append}
use Rattle.mailbox.specs.declared.view.Post.{Post}
use Rattle.mailbox.specs.Views.{ReceiverView}
use Rattle.packet_entry.specs.declared.letter.Letter.{Letter}
use Rattle.netlink_codec.specs.Messages.{NetlinkMessage, first_message}
use Rattle.histories.specs.declared.log.AskWords.{AskWords}
use Rattle.histories.specs.declared.log.Did.{Did}
use Rattle.histories.specs.declared.log.Did.TheVariants.{Sent}
use Rattle.histories.specs.Logs.{is_received}
use Rattle.packet_moves.specs.declared.setting.Setting.{Setting}
use Rattle.inspector_script.specs.Scripts.{ScriptValue}
use Rattle.run_parts.specs.Datagrams.{cut_in}
use Rattle.run_parts.specs.Log.{Due, Note, received_count}
use Rattle.plane.specs.declared.plane.Plane.{Plane}
use Rattle.place_turns.specs.Messages.{Sends}
use Rattle.plane.specs.Passes.{PortView}
use Rattle.plane.specs.Planes.{places_of, setting_of}
use Rattle.place_turns.specs.Trails.{Trail}
use Rattle.live_runs.specs.Doing.{IsCutting, IsDoing}
use Rattle.live_runs.specs.Passes.{Pass, SpeaksFirst}
use Rattle.live_runs.specs.Stages.{MaySpeak, Stage}
use Rattle.live_runs.specs.Stands.{Side, side}
use Rattle.live_passes.specs.Numbered.{StaysPort}
use Rattle.live_passes.specs.Views.{HaveSeenOwn, pass_with, port_pass}
use Rattle.live_work.specs.Minds.{HearsNothing}
use Rattle.live_work.specs.Sending.{HasCut, HasCutTo}
use Rattle.live_work.proofs.UnchangedPass.{port_owns}

-- ---- one message

-- the law of a plane's message
abbrev pub SendsLaw : Type 0
SendsLaw = (places : ℕ) (s : Setting) (port : ℕ) (front : Option (NetlinkMessage × ℕ))
    (dids logged : List Did) (letters : List Letter) (old new : Trail) (before after : List ℕ)
    (used : ℕ) → HaveSeenOwn old.known →
    Sends places s port front dids logged old new before after used →
    SpeaksFirst places port front (pass_with dids letters old.known)
    (pass_with logged letters new.known) used

-- the pass speaks, as the port that it was at first
pub speaks : SendsLaw → (plane : Plane) (front : Option (NetlinkMessage × ℕ))
    (start old new : PortView) (before after : List ℕ) (used : ℕ) → StaysPort plane start old →
    Sends (places_of plane) (setting_of plane) old.port front old.dids new.dids old.trail new.trail
    before after used → new.receiver ≡ old.receiver →
    SpeaksFirst (places_of plane) start.port front (port_pass old) (port_pass new) used
speaks law plane front start old new before after used stays sent same =
    subst (λ (p : ℕ). SpeaksFirst (places_of plane) p front (port_pass old) (port_pass new) used)
    stays.port
    (subst (λ (r : ReceiverView). SpeaksFirst (places_of plane) old.port front (port_pass old)
    (pass_with new.dids (map (λ (post : Post). post.letter) r.received) new.trail.known) used)
    (sym same)
    (law (places_of plane) (setting_of plane) old.port front old.dids new.dids
    (map (λ (post : Post). post.letter) old.receiver.received) old.trail new.trail before after
    used (port_owns plane old stays.of) sent))

-- ---- the count of notices

sent_count : (dids : List Did) (call : ℕ) (ask : AskWords) (answer : Option ℕ) →
    received_count (dids ++ Sent call ask answer ∷ []) ≡ received_count dids
sent_count dids call ask answer =
    omega (
      arith,
      sum_by-append (λ (d : Did). cond (is_received d) 1 0) dids (Sent call ask answer ∷ []),
    )

pub count_sent : (places : ℕ) (s : Setting) (port : ℕ) (front : Option (NetlinkMessage × ℕ))
    (dids logged : List Did) (old new : Trail) (before after : List ℕ) (used : ℕ) →
    Sends places s port front dids logged old new before after used →
    received_count logged ≡ received_count dids
count_sent places s port None dids logged old new before after used sent =
    ap (λ (l : List Did). received_count l) sent.2
count_sent places s port (Some (m, n)) dids logged old new before after used sent =
    ap (λ (l : List Did). received_count l) sent.1.noted ∙ sent_count dids _ _ _

pub hears_on : (a b c : PortView) → HearsNothing a b → c.receiver ≡ b.receiver →
    received_count c.dids ≡ received_count b.dids → HearsNothing a c
hears_on a b c was receiver counted =
    record { receiver = receiver ∙ was.receiver; counted = counted ∙ was.counted }

-- ---- the messages of some bytes

abbrev pub NextLaw : Type 0
NextLaw = (workers : ℕ) (script : ScriptValue) (places : ℕ) (stage : Stage) (port : ℕ)
    (was : List Note) (start : Pass) (x : Side) (ds : List Due) (count look : ℕ) (rest : List ℕ)
    (old new : Pass) (used : ℕ) → 0 < places → MaySpeak script.ports port stage x →
    look < count → 0 < used → SpeaksFirst places port (first_message rest) old new used →
    IsCutting workers script places stage port was start x (cut_in (count - look) rest) ds old →
    IsCutting workers script places stage port was start x
    (cut_in (count - (look + 1)) (drop used rest)) ds new

abbrev pub NoneLaw : Type 0
NoneLaw = (workers : ℕ) (script : ScriptValue) (places : ℕ) (stage : Stage) (port : ℕ)
    (was : List Note) (start : Pass) (x : Side) (ds : List Due) (count look : ℕ) (rest : List ℕ)
    (old new : Pass) (used : ℕ) → 0 < places → MaySpeak script.ports port stage x →
    look < count → used ≤ 0 → SpeaksFirst places port (first_message rest) old new used →
    IsCutting workers script places stage port was start x (cut_in (count - look) rest) ds old →
    IsDoing workers script places stage port was start (side x ds) new

abbrev pub EnoughLaw : Type 0
EnoughLaw = (workers : ℕ) (script : ScriptValue) (places : ℕ) (stage : Stage) (port : ℕ)
    (was : List Note) (start : Pass) (x : Side) (ds : List Due) (count look : ℕ) (rest : List ℕ)
    (pass : Pass) → 0 < places → MaySpeak script.ports port stage x → count ≤ look →
    IsCutting workers script places stage port was start x (cut_in (count - look) rest) ds pass →
    IsDoing workers script places stage port was start (side x ds) pass

-- one more was sent
pub cut_on : NextLaw → (script : ScriptValue) (places port : ℕ) (bytes : List ℕ)
    (count look : ℕ) (rest left : List ℕ) (begun old new : Pass) (used : ℕ) → 0 < places →
    look < count → 0 < used → SpeaksFirst places port (first_message rest) old new used →
    left ≡ drop used rest →
    HasCutTo script places port bytes (cut_in (count - look) rest) begun old →
    HasCutTo script places port bytes (cut_in (count - (look + 1)) left) begun new
cut_on law script places port bytes count look rest left begun old new used some within uses speaks
    is so_far = record {
      on = λ workers stage was start x ds may cuts.
          subst (λ (l : List ℕ). IsCutting workers script places stage port was start x
          (cut_in (count - (look + 1)) l) ds new) (sym is)
          (law workers script places stage port was start x ds count look rest old new used some
          may within uses speaks (so_far.on workers stage was start x ds may cuts));
    }

-- no message stands there
pub cut_last : NoneLaw → (script : ScriptValue) (places port : ℕ) (bytes : List ℕ)
    (count look : ℕ) (rest : List ℕ) (begun old new : Pass) (used : ℕ) → 0 < places →
    look < count → used ≤ 0 → SpeaksFirst places port (first_message rest) old new used →
    HasCutTo script places port bytes (cut_in (count - look) rest) begun old →
    HasCut script places port bytes begun new
cut_last law script places port bytes count look rest begun old new used some within none speaks
    so_far = record {
      on = λ workers stage was start x ds may cuts.
          law workers script places stage port was start x ds count look rest old new used some may
          within none speaks (so_far.on workers stage was start x ds may cuts);
    }

-- there was a look for each byte
pub cut_all : EnoughLaw → (script : ScriptValue) (places port : ℕ) (bytes : List ℕ)
    (count look : ℕ) (rest : List ℕ) (begun pass : Pass) → 0 < places → count ≤ look →
    HasCutTo script places port bytes (cut_in (count - look) rest) begun pass →
    HasCut script places port bytes begun pass
cut_all law script places port bytes count look rest begun pass some past so_far = record {
  on = λ workers stage was start x ds may cuts.
      law workers script places stage port was start x ds count look rest pass some may past
      (so_far.on workers stage was start x ds may cuts);
}
