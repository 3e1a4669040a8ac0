-- How ports of a run do what is due: message by message.
use Rattle.std.proofs.Common.{◌≡◌, ◌≤◌, ◌⊎◌, ◌∙◌, ◌+◌, ◌*◌, ℕ, suc, List, [], ◌∷◌, ◌++◌}
use Rattle.std.proofs.Common.{Option, Some, None, Bool, true, false, refl, sym, ap, subst, inl, inr}
use Rattle.std.specs.Prelude.{map, not, ◌==◌, if◌then◌else◌, option_map, length}
use Rattle.std.proofs.lemmas.Bool.{eq-eqb, eqb-true, cases_Bool}
use Rattle.packet_entry.specs.declared.letter.Letter.{Letter}
use Rattle.netlink_codec.specs.Messages.{NetlinkMessage}
use Rattle.nfqa_msgs.specs.declared.request.Decoded.{Decoded}
use Rattle.nfqa_msgs.specs.declared.request.Decoded.TheVariants.{Nothing, Refused, Asked}
use Rattle.nfqa_msgs.specs.RequestReading.{decoded}
use Rattle.histories.specs.declared.entry.Entry.{Entry}
use Rattle.histories.specs.declared.log.AskWords.{AskWords}
use Rattle.histories.specs.declared.log.Did.TheVariants.{Sent}
use Rattle.histories.specs.Journeys.{Arrival}
use Rattle.histories.specs.States.{state_of}
use Rattle.histories.specs.Happenings.{all_handed}
use Rattle.total_order.specs.Steps.{HasCome}
use Rattle.script_lines.specs.declared.ask.Ask.TheVariants.{Words, Close}
use Rattle.script_lines.specs.declared.line.Down.{Down}
use Rattle.inspector_script.specs.Scripts.{ScriptValue}
use Rattle.packet_moves.specs.declared.setting.Setting.{Setting}
use Rattle.packet_moves.specs.World.{World, Port, at_port, changed_at, having_done, received}
use Rattle.packet_moves.specs.World.{closed}
use Rattle.packet_moves.specs.Calls.{next_call}
use Rattle.packet_moves.specs.Moving.{arrived, left_at_once, room_for}
use Rattle.packet_moves.specs.Messages.{words_of, answered, call_at, asking, with_ask}
use Rattle.packet_moves.specs.Planes.{with_closed, without_device}
use Rattle.solo_schedule.specs.Sending.{carried_out, errno_of, sent, sent_as}
use Rattle.run_parts.specs.Datagrams.{messages_in, bytes_of}
use Rattle.solo_schedule.specs.Sending.{all_sent, done, all_done}
use Rattle.solo_schedule.specs.Schedule.{is_open_port}
use Rattle.run_parts.specs.Log.{Note, Got, Begun, Spoke, Shut, Due, Still, Message, Standing}
use Rattle.run_parts.specs.Log.{all_due, is_some_due, after}
use Rattle.run_parts.specs.Log.{IsNext, standing}
use Rattle.solo_schedule.proofs.OnwardPackets.{all_moved_keeps}
use Rattle.solo_schedule.proofs.RunSteps.{LogLaws}
use Rattle.solo_schedule.proofs.RunSteps.{Stand, full, IsAt, noted, put, put_same, is_in}
use Rattle.solo_schedule.proofs.RunSteps.{AreAt, all_push, all_arrive, all_as}

-- what is known of entries, ports and what ports did
abbrev pub Kept : Type 1
Kept = List Entry → (ℕ → Option Port) → (ℕ → List Note) → Type 0

-- Each move keeps it.
pub record Keeps (s : Setting) (P : Kept) : Type 0 where
  pub arrives : (w : World) (notes : ℕ → List Note) (a : Arrival) → P w.entries w.ports notes →
      P (arrived s w a).entries (arrived s w a).ports notes
  pub begins : (es : List Entry) (ports : ℕ → Option Port) (notes : ℕ → List Note) (port : ℕ) →
      P es ports notes → P es ports (noted port Begun notes)
  pub speaks : (w : World) (notes : ℕ → List Note) (port call : ℕ) (m : NetlinkMessage) →
      is_open_port (w.ports port) ≡ true → P w.entries w.ports notes →
      P (sent_as s port call m w).entries (sent_as s port call m w).ports
      (noted port (Spoke call m (errno_of port call (decoded m) w)) notes)
  pub gets : (w : World) (notes : ℕ → List Note) (port : ℕ) (held : Port) (l : Letter)
      (ls : List Letter) → is_open_port (w.ports port) ≡ true → w.ports port ≡ Some held →
      held.letters ≡ l ∷ ls → P w.entries w.ports notes →
      P w.entries (at_port port received w).ports (noted port (Got l) notes)
  pub closes : (w : World) (notes : ℕ → List Note) (port : ℕ) →
      is_open_port (w.ports port) ≡ true → P w.entries w.ports notes →
      P (with_closed w port).entries (with_closed w port).ports (noted port Shut notes)
  pub falls : (w : World) (notes : ℕ → List Note) (device : ℕ) → P w.entries w.ports notes →
      P (without_device w device).entries (without_device w device).ports notes

-- ---- how far a run is

-- Whether all ports have opened; the ranks and the time that what happens next has; and the `down`
-- lines that took effect.
pub record Stage : Type 0 where
  pub is_over : Bool
  pub early : ℕ
  pub late : ℕ
  pub time : ℕ
  pub fallen : List Down

-- all ports have opened
abbrev pub IsOver : ScriptValue → Stage → Type 0
IsOver script st = (st.is_over ≡ true) × (st.early ≡ length script.ports)

-- nothing arrives before that, and what comes again left before
pub record MayArrive (script : ScriptValue) (st : Stage) (es : List Entry) (a : Arrival) :
    Type 0 where
  pub over : IsOver script st
  pub visit : 2 ≤ a.card.visit
  pub come : HasCome a.card.number a.card.visit es

-- and what arrives for the first time is of the frame that is fed
pub record MayEnter (script : ScriptValue) (st : Stage) (a : Arrival) : Type 0 where
  pub over : IsOver script st
  pub visit : a.card.visit ≡ 1
  pub late : st.late ≡ 0
  pub time : st.time ≤ 2 * a.card.number

abbrev pub with_fed : Stage → ℕ → Stage
with_fed st number = record st { time = 2 * number + 1 }

-- the script's port at this place sends a message of its end, or another one
abbrev pub MaySpeak : ScriptValue → Stage → ℕ → Bool → Type 0
MaySpeak script st place true = IsOver script st × (st.late ≡ suc place)
MaySpeak script st place false = IsOver script st ⊎ ((st.is_over ≡ false) × (st.early ≡ place))

-- what is known of entries, ports and what ports did, at each stage
abbrev pub Staged : Type 1
Staged = Stage → Kept

-- a stage that isn't before this one, with the same lines
pub record Follows (script : ScriptValue) (st u : Stage) : Type 0 where
  pub early : st.early ≤ u.early
  pub late : st.late ≤ u.late
  pub time : st.time ≤ u.time
  pub fallen : st.fallen ≡ u.fallen

abbrev pub with_fallen : Stage → Down → Stage
with_fallen st d =
    record st { time = 2 * d.after + 1; fallen = st.fallen ++ d ∷ [] }

-- Each move that a stage allows keeps it, and so does a stage that follows.
pub record Goes (s : Setting) (script : ScriptValue) (f : ℕ → ℕ) (P : Staged) : Type 0 where
  pub log : LogLaws
  pub arrives : (st : Stage) (w : World) (notes : ℕ → List Note) (a : Arrival) →
      MayArrive script st w.entries a → P st w.entries w.ports notes →
      P st (arrived s w a).entries (arrived s w a).ports notes
  pub enters : (st : Stage) (w : World) (notes : ℕ → List Note) (a : Arrival) →
      MayEnter script st a → P st w.entries w.ports notes →
      P (with_fed st a.card.number) (arrived s w a).entries (arrived s w a).ports notes
  pub begins : (st : Stage) (es : List Entry) (ports : ℕ → Option Port) (notes : ℕ → List Note)
      (port : ℕ) → is_in script f port ≡ true → P st es ports notes →
      P st es ports (noted port Begun notes)
  pub speaks : (st : Stage) (w : World) (notes : ℕ → List Note) (port call : ℕ)
      (m : NetlinkMessage) (at_end : Bool) → is_in script f port ≡ true →
      is_open_port (w.ports port) ≡ true → MaySpeak script st (f port) at_end →
      is_some_due (standing 1 script (f port) port (notes port)).owed ≡ not at_end →
      P st w.entries w.ports notes →
      P st (sent_as s port call m w).entries (sent_as s port call m w).ports
      (noted port (Spoke call m (errno_of port call (decoded m) w)) notes)
  pub gets : (st : Stage) (w : World) (notes : ℕ → List Note) (port : ℕ) (held : Port)
      (l : Letter) (ls : List Letter) → is_in script f port ≡ true →
      is_open_port (w.ports port) ≡ true → IsOver script st →
      w.ports port ≡ Some held → held.letters ≡ l ∷ ls → P st w.entries w.ports notes →
      P st w.entries (at_port port received w).ports (noted port (Got l) notes)
  pub closes : (st : Stage) (w : World) (notes : ℕ → List Note) (port : ℕ) →
      is_in script f port ≡ true → is_open_port (w.ports port) ≡ true →
      MaySpeak script st (f port) true → P st w.entries w.ports notes →
      P st (with_closed w port).entries (with_closed w port).ports (noted port Shut notes)
  pub falls : (st : Stage) (w : World) (notes : ℕ → List Note) (d : Down) → IsOver script st →
      st.late ≡ 0 → st.time ≤ 2 * d.after + 1 → P st w.entries w.ports notes →
      P (with_fallen st d) (without_device w d.device).entries (without_device w d.device).ports
      notes
  pub goes_on : (st u : Stage) (es : List Entry) (ports : ℕ → Option Port)
      (notes : ℕ → List Note) → Follows script st u → st.is_over ≡ u.is_over → P st es ports notes →
      P u es ports notes
  -- the last port has opened, and none owes anything
  pub opens_up : (st u : Stage) (es : List Entry) (ports : ℕ → Option Port)
      (notes : ℕ → List Note) → Follows script st u → IsOver script u →
      ((p : ℕ) → is_in script f p ≡ true → (standing 1 script (f p) p (notes p)).owed ≡ []) →
      P st es ports notes → P u es ports notes

-- what each move keeps, whatever the stage
pub always_goes : LogLaws → (s : Setting) (script : ScriptValue) (f : ℕ → ℕ) (P : Kept) →
    Keeps s P → Goes s script f (λ st. P)
always_goes laws s script f P k = record {
  log = laws;
  arrives = λ st w notes a may is. k.arrives w notes a is;
  enters = λ st w notes a may is. k.arrives w notes a is;
  begins = λ st es ports notes port i is. k.begins es ports notes port is;
  speaks = λ st w notes port call m at_end i op may due is. k.speaks w notes port call m op is;
  gets = λ st w notes port held l ls i op over there mail is.
      k.gets w notes port held l ls op there mail is;
  closes = λ st w notes port i op may is. k.closes w notes port op is;
  falls = λ st w notes d over late time is. k.falls w notes d.device is;
  goes_on = λ st u es ports notes follows same is. is;
  opens_up = λ st u es ports notes follows over idle is. is;
}

-- ---- what is due

-- what a port does stands in what it owes, before this end, or is its end
pub data Side : Type 0 where
  Now : List Due → Side
  AtEnd : Side

abbrev pub side : Side → List Due → Stand
side (Now ends) due = record { owed = due; ends = ends; is_open = true; is_fresh = false }
side AtEnd due = record { owed = []; ends = due; is_open = true; is_fresh = false }

abbrev pub at_its_end : Side → Bool
at_its_end (Now ends) = false
at_its_end AtEnd = true

-- the same, where an ask has just been taken up or not
abbrev pub cut_side : Side → List Due → Bool → Stand
cut_side x due fresh = record (side x due) { is_fresh = fresh }

open_is : (x : Side) (ds : List Due) (fresh : Bool) → (cut_side x ds fresh).is_open ≡ true
open_is (Now ends) ds fresh = refl
open_is AtEnd ds fresh = refl

owes_so : (x : Side) (d : Due) (ds : List Due) (fresh : Bool) →
    is_some_due (cut_side x (d ∷ ds) fresh).owed ≡ not (at_its_end x)
owes_so (Now ends) d ds fresh = refl
owes_so AtEnd d ds fresh = refl

unfresh : (x : Side) (due : List Due) → side x due ≡ cut_side x due false
unfresh (Now ends) due = refl
unfresh AtEnd due = refl

-- where a port stands that closed
abbrev pub shut_stand : Stand
shut_stand = record { owed = []; ends = []; is_open = false; is_fresh = false }

-- an ask is taken up
begun_leads : (script : ScriptValue) (place port : ℕ) (held : Port) (x : Side) (words : AskWords)
    (ds : List Due) →
    after 1 script place port (full held (side x (Still (Words words) ∷ ds))) Begun
    ≡ full held
    (cut_side x (map Message (messages_in (bytes_of port (next_call held.dids) words)) ++ ds)
    (is_some_due (map Message (messages_in (bytes_of port (next_call held.dids) words)))))
begun_leads script place port held (Now ends) words ds = refl
begun_leads script place port held AtEnd words ds = refl

begun_may : (held : Port) (x : Side) (words : AskWords) (ds : List Due) →
    IsNext 1 (full held (side x (Still (Words words) ∷ ds))) Begun
begun_may held (Now ends) words ds = (refl, tt)
begun_may held AtEnd words ds = (refl, tt)

-- the messages of an ask that is taken up
abbrev pub cut_of : ℕ → Option Port → AskWords → List NetlinkMessage
cut_of port o words = messages_in (bytes_of port (call_at o) words)

-- where a port stands that owes these messages, and then what stands behind them
abbrev pub cut_then : Side → List NetlinkMessage → List Due → Stand
cut_then x ms ds = cut_side x (map Message ms ++ ds) (is_some_due (map Message ms))

-- a message is sent
spoke_leads : (script : ScriptValue) (place port call : ℕ) (m : NetlinkMessage) (errno : ℕ)
    (held : Port) (x : Side) (ds : List Due) (fresh : Bool) →
    after 1 script place port (full held (cut_side x (Message m ∷ ds) fresh)) (Spoke call m errno)
    ≡ full (having_done
    (Sent call (words_of port call m.whole (decoded m)) (answered m errno)) held) (side x ds)
spoke_leads script place port call m errno held (Now ends) ds fresh = refl
spoke_leads script place port call m errno held AtEnd ds fresh = refl

spoke_may : (held : Port) (x : Side) (m : NetlinkMessage) (ds : List Due) (call errno : ℕ)
    (fresh : Bool) → call ≡ next_call held.dids →
    IsNext 1 (full held (cut_side x (Message m ∷ ds) fresh)) (Spoke call m errno)
spoke_may held (Now ends) m ds call errno fresh is = (refl, refl, is)
spoke_may held AtEnd m ds call errno fresh is = (refl, refl, is)

pub shut_same : (x : Side) (held : Port) (ds es : List Due) →
    held.is_closed ≡ not (side x ds).is_open → held.is_closed ≡ not (side x es).is_open
shut_same (Now ends) held ds es is = is
shut_same AtEnd held ds es is = is

module _ (s : Setting) (script : ScriptValue) (f : ℕ → ℕ) (P : Staged) (K : Goes s script f P)
    (st : Stage) where
  -- A run has come here: something is known, each port did what was next, and nobody else did
  -- anything.
  pub record Reached (es : List Entry) (ports : ℕ → Option Port) (T : ℕ → Stand) : Type 0 where
    pub notes : ℕ → List Note
    pub kept : P st es ports notes
    pub are : AreAt script f notes ports T
    pub none : (p : ℕ) → is_in script f p ≡ false → notes p ≡ []

  abbrev pub At : World → (ℕ → Stand) → Type 0
  At w T = Reached w.entries w.ports T

  pub reached_as : (w : World) (T U : ℕ → Stand) → At w T →
      ((p : ℕ) → is_in script f p ≡ true → T p ≡ U p) → At w U
  reached_as w T U r same = record {
    notes = r.notes;
    kept = r.kept;
    are = all_as script f r.notes w.ports T U r.are same;
    none = r.none;
  }

  pub none_then : (port : ℕ) (n : Note) (notes : ℕ → List Note) → is_in script f port ≡ true →
      ((p : ℕ) → is_in script f p ≡ false → notes p ≡ []) →
      (p : ℕ) → is_in script f p ≡ false → noted port n notes p ≡ []
  none_then port n notes i none p out = by (cases_Bool (p == port))
    where
      by : ((p == port) ≡ true) ⊎ ((p == port) ≡ false) → noted port n notes p ≡ []
      by (inl h) =
          let wrong : true ≡ false = sym i ∙ ap (is_in script f) (sym (eqb-true p port h)) ∙ out in
          absurd (cc)
      by (inr h) = rw h (none p out)

  pub arrive_reached : (T : ℕ → Stand) (w : World) (a : Arrival) →
      MayArrive script st w.entries a → At w T → At (arrived s w a) T
  arrive_reached T w a may r = record {
    notes = r.notes;
    kept = K.arrives st w r.notes a may r.kept;
    are = all_arrive script f r.notes T (state_of w.entries a.queue) a
        (left_at_once w a (room_for s w a)) w.ports r.are;
    none = r.none;
  }

  -- an ask is taken up
  begin_reached : (T : ℕ → Stand) (x : Side) (port : ℕ) (words : AskWords) (ds : List Due)
      (w : World) → is_in script f port ≡ true →
      At w (put port (side x (Still (Words words) ∷ ds)) T) →
      At w (put port (cut_then x (cut_of port (w.ports port) words) ds) T)
  begin_reached T x port words ds w i r = record {
    notes = noted port Begun r.notes;
    kept = K.begins st w.entries w.ports r.notes port i r.kept;
    are = record {
      at = λ p j. subst (λ o. IsAt script (f p) p (noted port Begun r.notes p) o
          (put port (cut_then x (cut_of port (w.ports port) words) ds) T p))
          (same p (p == port) (w.ports p)) (pushed.at p j);
    };
    none = none_then port Begun r.notes i r.none;
  }
    where
      same : (p : ℕ) (c : Bool) (o : Option Port) →
          (if c then option_map (λ (q : Port). q) o else o) ≡ o
      same p true None = refl
      same p true (Some q) = refl
      same p false o = refl

      pushed : AreAt script f (noted port Begun r.notes) (changed_at port (λ (q : Port). q) w.ports)
          (put port (cut_then x (cut_of port (w.ports port) words) ds) T)
      pushed = all_push script f K.log port (side x (Still (Words words) ∷ ds))
          (cut_then x (cut_of port (w.ports port) words) ds) Begun
          (λ q. q) r.notes w.ports T r.are
          (λ held there shut. (
            begun_may held x words ds,
            subst (λ o. after 1 script (f port) port
                (full held (side x (Still (Words words) ∷ ds))) Begun
                ≡ full held (cut_then x (cut_of port o words) ds))
                (sym there) (begun_leads script (f port) port held x words ds),
            shut_same x held (Still (Words words) ∷ ds)
                (map Message (cut_of port (w.ports port) words) ++ ds) shut,
          ))

  -- a message is sent
  carried_are : (T : ℕ → Stand) (notes : ℕ → List Note) (port call : ℕ) (d : Decoded) (w : World) →
      AreAt script f notes w.ports T →
      AreAt script f notes (carried_out s port call d w).ports T
  carried_are T notes port call Nothing w are = are
  carried_are T notes port call (Refused errno) w are = are
  carried_are T notes port call (Asked request) w are =
      all_moved_keeps s (λ es ports. AreAt script f notes ports T)
      (λ v a are. all_arrive script f notes T (state_of v.entries a.queue) a
      (left_at_once v a (room_for s v a)) v.ports are)
      (all_handed (asking w port call request).left) (with_ask w port call request) are

  -- what happens between leaves what the port did
  same_call : (place port : ℕ) (notes : List Note) (before o : Option Port) (t : Stand)
      (held : Port) →
      IsAt script place port notes before t → IsAt script place port notes o t → o ≡ Some held →
      call_at before ≡ next_call held.dids
  same_call place port notes before o t held was is there =
      let one : Some held ≡ Some is.held = sym there ∙ is.there in
      let same : held ≡ is.held = cc in
      ap call_at was.there
      ∙ ap (λ (v : Standing). next_call v.dids) (sym was.stands ∙ is.stands)
      ∙ ap (λ (p : Port). next_call p.dids) (sym same)

  -- a port that stands open is open
  pub is_open : (place port : ℕ) (notes : List Note) (o : Option Port) (t : Stand) →
      IsAt script place port notes o t → t.is_open ≡ true → is_open_port o ≡ true
  is_open place port notes o t is so =
      ap is_open_port is.there ∙ ap not is.shut ∙ ap (λ b. not (not b)) so

  send_reached : (T : ℕ → Stand) (x : Side) (port : ℕ) (m : NetlinkMessage) (ds : List Due)
      (fresh : Bool) (w : World) → is_in script f port ≡ true →
      MaySpeak script st (f port) (at_its_end x) →
      At w (put port (cut_side x (Message m ∷ ds) fresh) T) →
      At (sent s port m w) (put port (side x ds) T)
  send_reached T x port m ds fresh w i may r =
      let call = call_at (w.ports port) in
      let errno = errno_of port call (decoded m) w in
      let between = carried_out s port call (decoded m) w in
      let U = put port (cut_side x (Message m ∷ ds) fresh) T in
      let are = carried_are U r.notes port call (decoded m) w r.are in
      record {
        notes = noted port (Spoke call m errno) r.notes;
        kept = K.speaks st w r.notes port call m (at_its_end x) i
            (is_open (f port) port (r.notes port) (w.ports port) (U port) (r.are.at port i)
            (rw (eq-eqb port port refl) (open_is x (Message m ∷ ds) fresh))) may
            (ap (λ (t : Standing). is_some_due t.owed) (r.are.at port i).stands
            ∙ ap (λ (t : Stand). is_some_due t.owed)
            (put_same port (cut_side x (Message m ∷ ds) fresh) T)
            ∙ owes_so x (Message m) ds fresh) r.kept;
        are = all_push script f K.log port (cut_side x (Message m ∷ ds) fresh) (side x ds)
            (Spoke call m errno)
            (having_done (Sent call (words_of port call m.whole (decoded m)) (answered m errno)))
            r.notes between.ports T are
            (λ held there shut. (
              spoke_may held x m ds call errno fresh
                  (same_call (f port) port (r.notes port) (w.ports port) (between.ports port)
                  (U port)
                  held (r.are.at port i) (are.at port i) there),
              spoke_leads script (f port) port call m errno held x ds fresh,
              shut_same x held (Message m ∷ ds) ds shut,
            ));
        none = none_then port (Spoke call m errno) r.notes i r.none;
      }

  -- ---- whole asks

  -- what happens after a message keeps where all stand
  abbrev pub Stays : (World → World) → ℕ → Side → (ℕ → Stand) → Type 0
  Stays behind port x T =
      (w : World) (ds : List Due) → At w (put port (side x ds) T) →
      At (behind w) (put port (side x ds) T)

  sends_reached : (behind : World → World) (T : ℕ → Stand) (x : Side) (port : ℕ) →
      Stays behind port x T → is_in script f port ≡ true →
      MaySpeak script st (f port) (at_its_end x) → (ms : List NetlinkMessage) (ds : List Due)
      (w : World) → At w (put port (side x (map Message ms ++ ds)) T) →
      At (all_sent behind s port ms w) (put port (side x ds) T)
  sends_reached behind T x port stays i may [] ds w r = r
  sends_reached behind T x port stays i may (m ∷ ms) ds w r =
      sends_reached behind T x port stays i may ms ds (behind (sent s port m w))
      (stays (sent s port m w) (map Message ms ++ ds)
      (send_reached T x port m (map Message ms ++ ds) false w i may
      (subst (λ t. At w (put port t T)) (unfresh x (Message m ∷ (map Message ms ++ ds))) r)))

  -- all messages of an ask that was taken up
  cut_reached : (behind : World → World) (T : ℕ → Stand) (x : Side) (port : ℕ) →
      Stays behind port x T → is_in script f port ≡ true →
      MaySpeak script st (f port) (at_its_end x) → (ms : List NetlinkMessage)
      (ds : List Due) (w : World) → At w (put port (cut_then x ms ds) T) →
      At (all_sent behind s port ms w) (put port (side x ds) T)
  cut_reached behind T (Now ends) port stays i may [] ds w r = r
  cut_reached behind T AtEnd port stays i may [] ds w r = r
  cut_reached behind T x port stays i may (m ∷ ms) ds w r =
      sends_reached behind T x port stays i may ms ds (behind (sent s port m w))
      (stays (sent s port m w) (map Message ms ++ ds)
      (send_reached T x port m (map Message ms ++ ds) true w i may r))

  pub words_reached : (behind : World → World) (T : ℕ → Stand) (x : Side) (port : ℕ) →
      Stays behind port x T → is_in script f port ≡ true →
      MaySpeak script st (f port) (at_its_end x) → (all : List AskWords) (ds : List Due)
      (w : World) → At w (put port (side x (all_due (map Words all) ++ ds)) T) →
      At (all_done behind s port (map Words all) w) (put port (side x ds) T)
  words_reached behind T x port stays i may [] ds w r = r
  words_reached behind T x port stays i may (words ∷ more) ds w r =
      words_reached behind T x port stays i may more ds (done behind s port (Words words) w)
      (cut_reached behind T x port stays i may (cut_of port (w.ports port) words)
      (all_due (map Words more) ++ ds) w
      (begin_reached T x port words (all_due (map Words more) ++ ds) w i r))

  pub close_reached : (T : ℕ → Stand) (port : ℕ) (w : World) → is_in script f port ≡ true →
      MaySpeak script st (f port) true → At w (put port (side AtEnd (Still Close ∷ [])) T) →
      At (with_closed w port) (put port shut_stand T)
  close_reached T port w i may r = record {
    notes = noted port Shut r.notes;
    kept = K.closes st w r.notes port i
        (is_open (f port) port (r.notes port) (w.ports port)
        (put port (side AtEnd (Still Close ∷ [])) T port) (r.are.at port i)
        (rw (eq-eqb port port refl) refl)) may r.kept;
    are = all_push script f K.log port (side AtEnd (Still Close ∷ []))
        shut_stand Shut closed r.notes w.ports T r.are
        (λ held there shut. ((refl, refl, refl), refl, refl));
    none = none_then port Shut r.notes i r.none;
  }

-- what keeps one and another keeps both
pub both_kept : (s : Setting) (P Q : Kept) → Keeps s P → Keeps s Q →
    Keeps s (λ es ports notes. P es ports notes × Q es ports notes)
both_kept s P Q k l = record {
  arrives = λ w notes a is. (k.arrives w notes a is.0, l.arrives w notes a is.1);
  begins = λ es ports notes port is.
      (k.begins es ports notes port is.0, l.begins es ports notes port is.1);
  speaks = λ w notes port call m op is.
      (k.speaks w notes port call m op is.0, l.speaks w notes port call m op is.1);
  gets = λ w notes port held one ls op there mail is. (
    k.gets w notes port held one ls op there mail is.0,
    l.gets w notes port held one ls op there mail is.1,
  );
  closes = λ w notes port op is. (k.closes w notes port op is.0, l.closes w notes port op is.1);
  falls = λ w notes device is. (k.falls w notes device is.0, l.falls w notes device is.1);
}

-- and of what stages allow
pub both_go : (s : Setting) (script : ScriptValue) (f : ℕ → ℕ) (P Q : Staged) →
    Goes s script f P → Goes s script f Q →
    Goes s script f (λ st es ports notes. P st es ports notes × Q st es ports notes)
both_go s script f P Q k l = record {
  log = k.log;
  arrives = λ st w notes a may is.
      (k.arrives st w notes a may is.0, l.arrives st w notes a may is.1);
  enters = λ st w notes a may is.
      (k.enters st w notes a may is.0, l.enters st w notes a may is.1);
  begins = λ st es ports notes port i is.
      (k.begins st es ports notes port i is.0, l.begins st es ports notes port i is.1);
  speaks = λ st w notes port call m at_end i op may due is. (
    k.speaks st w notes port call m at_end i op may due is.0,
    l.speaks st w notes port call m at_end i op may due is.1,
  );
  gets = λ st w notes port held one ls i op over there mail is. (
    k.gets st w notes port held one ls i op over there mail is.0,
    l.gets st w notes port held one ls i op over there mail is.1,
  );
  closes = λ st w notes port i op may is. (
    k.closes st w notes port i op may is.0,
    l.closes st w notes port i op may is.1,
  );
  falls = λ st w notes d over late time is. (
    k.falls st w notes d over late time is.0,
    l.falls st w notes d over late time is.1,
  );
  goes_on = λ st u es ports notes follows same is. (
    k.goes_on st u es ports notes follows same is.0,
    l.goes_on st u es ports notes follows same is.1,
  );
  opens_up = λ st u es ports notes follows over idle is. (
    k.opens_up st u es ports notes follows over idle is.0,
    l.opens_up st u es ports notes follows over idle is.1,
  );
}
