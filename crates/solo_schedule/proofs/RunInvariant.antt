-- What each move of a run keeps, the whole run keeps; and each port does what is next.
use Rattle.std.proofs.Common.{◌≡◌, ◌⊎◌, ◌+◌, ◌∙◌, ℕ, zero, suc, List, [], ◌∷◌, ◌++◌}
use Rattle.std.proofs.Common.{Option, Some, None, Bool, true, false, refl, sym, ap, subst, inl, inr}
use Rattle.std.proofs.Common.{append-nil, append_assoc, arith, ◌*◌, ◌≤◌}
use Rattle.std.specs.Prelude.{map, not, ◌==◌, if◌then◌else◌, option_map, slice_get, length, filter}
use Rattle.std.specs.Option.{option_map_or}
use Rattle.std.proofs.lemmas.Bool.{eq-eqb, eqb-true, cases_Bool}
use Rattle.packet_entry.specs.declared.packet.Card.{Card}
use Rattle.packet_entry.specs.declared.letter.Letter.{Letter}
use Rattle.pcap_io.specs.declared.capture.Capture.{Capture}
use Rattle.pcap_io.specs.declared.capture.Frame.{Frame}
use Rattle.hook_chain.specs.Route.{next}
use Rattle.nfqa_msgs.specs.declared.notice.Notice.{Notice}
use Rattle.nfqa_msgs.specs.NoticeWriting.{Told}
use Rattle.run_parts.specs.Ports.{ArePlaced}
use Rattle.nfqa_msgs.specs.NoticeTexts.{told_exactly}
use Rattle.nfqa_msgs.specs.NoticeMeaning.{notice_of}
use Rattle.histories.specs.declared.log.AskWords.{AskWords}
use Rattle.script_lines.specs.declared.ask.Ask.{Ask}
use Rattle.script_lines.specs.declared.ask.Ask.TheVariants.{Words, Close}
use Rattle.script_lines.specs.declared.line.Down.{Down}
use Rattle.script_lines.specs.declared.answering.OnLine.{OnLine}
use Rattle.script_lines.specs.declared.template.Template.{Template}
use Rattle.script_lines.specs.declared.template.Template.TheVariants as template
use Rattle.script_lines.specs.Answering.{asks_of}
use Rattle.script_lines.specs.Asking.{asked}
use Rattle.inspector_script.specs.declared.block.Block.{Block}
use Rattle.inspector_script.specs.Blocks as block
use Rattle.inspector_script.specs.Scripts.{ScriptValue, answer}
use Rattle.packet_moves.specs.declared.setting.Setting.{Setting}
use Rattle.packet_moves.specs.World.{World, Port, at_port, received, received_from}
use Rattle.packet_moves.specs.Planes.{entered, without_device}
use Rattle.packet_moves.specs.Moving.{arrival_to, arrived, left_at_once, room_for}
use Rattle.histories.specs.States.{state_of}
use Rattle.solo_schedule.specs.Numbers.{enough_arrivals}
use Rattle.run_parts.specs.Entering.{card_of}
use Rattle.solo_schedule.specs.Sending.{all_done, done}
use Rattle.solo_schedule.specs.Schedule.{Looked, letters_at, is_open_port}
use Rattle.solo_schedule.specs.Schedule.{answered_by, looked_at, looked}
use Rattle.solo_schedule.specs.Schedule.{received_in, round, go_on_while, emptied_in}
use Rattle.solo_schedule.specs.Schedule.{all_down, fed, frame_passed, frames_passed}
use Rattle.run_parts.specs.Feeder.{downs_after, is_after}
use Rattle.solo_schedule.specs.Schedule.{is_pause}
use Rattle.run_parts.specs.Feeder.{downs_from}
use Rattle.run_parts.specs.Log.{Got, Due, Standing, all_due, after}
use Rattle.run_parts.specs.Log.{answer_to}
use Rattle.solo_schedule.proofs.LaterVisits.{LeaveAlone, carry_first, IsFresh, is_fresh}
use Rattle.solo_schedule.proofs.RunSteps.{Stand, full, noted, put, is_in}
use Rattle.solo_schedule.proofs.RunSteps.{all_push, all_arrive}
use Rattle.solo_schedule.proofs.DueMessages.{Staged, Goes, Stage, IsOver, Now, side, Reached, At}
use Rattle.solo_schedule.proofs.DueMessages.{reached_as, MayArrive, Follows, is_open}
use Rattle.solo_schedule.proofs.DueMessages.{arrive_reached, words_reached, none_then}

-- ---- what the script asks for

-- asks that are all words
abbrev pub AreWords : List Ask → Type 0
AreWords asks = (all : List AskWords) × (asks ≡ map Words all)

-- each answer is words
asked_words : (n : Notice) (line : List Template) → AreWords (map (asked n) line)
asked_words n [] = ([], refl)
asked_words n (t ∷ ts) = by t (asked_words n ts)
  where
    more : (words : AskWords) → AreWords (map (asked n) ts) →
        AreWords (Words words ∷ map (asked n) ts)
    more words are = (words ∷ are.0, ap (λ more. Words words ∷ more) are.1)

    by : (t : Template) → AreWords (map (asked n) ts) → AreWords (asked n t ∷ map (asked n) ts)
    by (template.Config queue settings) are = more _ are
    by (template.Verdict j payload) are = more _ are
    by (template.Batch j) are = more _ are
    by (template.Raw bytes) are = more _ are

line_words : (n : Notice) (line : Option OnLine) → AreWords (option_map_or (asks_of n) line [])
line_words n None = ([], refl)
line_words n (Some line) = asked_words n line.asks

pub answer_words : (n : Notice) (received : ℕ) (b : Option Block) →
    AreWords (option_map_or (block.answer received n) b [])
answer_words n received None = ([], refl)
answer_words n received (Some b) = line_words n (block.line_for received n b.lines)

pub opening_words : (b : Option Block) → AreWords (option_map_or block.opening b [])
opening_words None = ([], refl)
opening_words (Some b) = (b.opening, refl)

-- the asks of the end: words, and behind them the closing where there is one
pub record IsEnd (asks : List Ask) (stays : Bool) : Type 0 where
  pub all : List AskWords
  pub is : asks ≡ map Words all ++ (if stays then [] else Close ∷ [])

abbrev pub stays_open : Option Block → Bool
stays_open None = true
stays_open (Some b) = not b.closes

pub closing_end : (b : Option Block) → IsEnd (option_map_or block.closing b []) (stays_open b)
closing_end None = record { all = []; is = refl }
closing_end (Some b) = record { all = b.closing; is = by b.closes }
  where
    by : (c : Bool) → map Words b.closing ++ (if c then Close ∷ [] else [])
        ≡ map Words b.closing ++ (if not c then [] else Close ∷ [])
    by true = refl
    by false = refl

pub done_append : (behind : World → World) (s : Setting) (port : ℕ) (xs ys : List Ask) (w : World) →
    all_done behind s port (xs ++ ys) w ≡ all_done behind s port ys (all_done behind s port xs w)
done_append behind s port [] ys w = refl
done_append behind s port (x ∷ xs) ys w = done_append behind s port xs ys (done behind s port x w)

-- ---- where ports stand

stand_is : (t : Stand) → t.owed ≡ [] → t.is_open ≡ true → t.is_fresh ≡ false →
    t ≡ side (Now t.ends) []
stand_is t owed open_so fresh =
    let one : t ≡ record { owed = []; ends = t.ends; is_open = t.is_open; is_fresh = t.is_fresh } =
    ap (λ (ds : List Due).
    record { owed = ds; ends = t.ends; is_open = t.is_open; is_fresh = t.is_fresh }) owed in
    one
    ∙ ap (λ (b : Bool). record { owed = []; ends = t.ends; is_open = b; is_fresh = t.is_fresh })
    open_so
    ∙ ap (λ (b : Bool). record { owed = []; ends = t.ends; is_open = true; is_fresh = b }) fresh

pub put_own : (port : ℕ) (t : Stand) (T : ℕ → Stand) → T port ≡ t → (p : ℕ) → put port t T p ≡ T p
put_own port t T is p = by (cases_Bool (p == port))
  where
    by : ((p == port) ≡ true) ⊎ ((p == port) ≡ false) → put port t T p ≡ T p
    by (inl h) = rw h (sym is ∙ ap T (sym (eqb-true p port h)))
    by (inr h) = rw h refl

-- ---- looks

module _ (script : ScriptValue) (f : ℕ → ℕ) where
  -- nobody owes anything
  abbrev pub AllIdle : (ℕ → Stand) → Type 0
  AllIdle T =
      (p : ℕ) → is_in script f p ≡ true → ((T p).owed ≡ []) × ((T p).is_fresh ≡ false)
  -- the ports from this place on

-- all ports have opened
module _ (s : Setting) (script : ScriptValue) (f : ℕ → ℕ) (P : Staged) (K : Goes s script f P)
    (st : Stage) (over : IsOver script st) where
  -- the answer is due, and is sent
  answer_reached : (T : ℕ → Stand) (port : ℕ) (t : Option Told) (w : World) (ends : List Due)
      (held : Port) → is_in script f port ≡ true → w.ports port ≡ Some held →
      At s script f P K st w (put port (side (Now ends)
      (all_due (answer_to script (f port) held.dids t))) T) →
      At s script f P K st (answered_by s script (f port) port t w) (put port (side
      (Now ends) []) T)
  answer_reached T port None w ends held i there r = r
  answer_reached T port (Some told) w ends held i there r =
      let count = received_in (w.ports port) in
      let words = answer_words (notice_of told) count (slice_get script.blocks (f port)) in
      let r2 : At s script f P K st w (put port (side (Now ends)
      (all_due (answer script (f port) count (notice_of told)) ++ [])) T) =
      subst (λ ds. At s script f P K st w (put port (side (Now ends) ds) T))
      (sym (append-nil (all_due (answer script (f port) count (notice_of told)))))
      (subst (λ o. At s script f P K st w (put port (side (Now ends)
      (all_due (answer script (f port) (received_in o) (notice_of told)))) T)) (sym there) r) in
      subst (λ asks. At s script f P K st (all_done (λ v. v) s port asks w) (put port (side
      (Now ends) []) T))
      (sym words.1)
      (words_reached s script f P K st (λ v. v) T (Now ends) port (λ v ds r. r) i
      (inl over) words.0 [] w
      (subst (λ asks. At s script f P K st w (put port (side (Now ends)
      (all_due asks ++ [])) T)) words.1 r2))

  -- the first notice is received, and its answer is due
  pub record Received1 (T : ℕ → Stand) (port : ℕ) (ends : List Due) (l : Letter) (w : World)
      : Type 0 where
    pub held : Port
    pub there : (at_port port received w).ports port ≡ Some held
    pub reached : At s script f P K st (at_port port received w)
        (put port (side (Now ends)
        (all_due (answer_to script (f port) held.dids (told_exactly l.bytes)))) T)

  get_reached : (T : ℕ → Stand) (port : ℕ) (ends : List Due) (l : Letter) (ls : List Letter)
      (w : World) → is_in script f port ≡ true → letters_at (w.ports port) ≡ l ∷ ls →
      At s script f P K st w (put port (side (Now ends) []) T) → Received1 T port ends l w
  get_reached T port ends l ls w i letters r =
      let here = r.are.at port i in
      record {
        held = received here.held;
        there = rw (eq-eqb port port refl) (ap (option_map received) here.there);
        reached = record {
          notes = noted port (Got l) r.notes;
          kept = K.gets st w r.notes port here.held l ls i
              (is_open s script f P K st (f port) port (r.notes port) (w.ports port)
              (put port (side (Now ends) []) T port) here (rw (eq-eqb port port refl) refl)) over
              here.there (theirs here.held here.there) r.kept;
          are = all_push script f K.log port (side (Now ends) [])
              (side (Now ends)
              (all_due (answer_to script (f port) (received here.held).dids
              (told_exactly l.bytes))))
              (Got l) received r.notes w.ports T r.are
              (λ held there shut. (
                (refl, refl, refl),
                leads here.held here.there held there,
                same_shut held (theirs held there) shut,
              ));
          none = none_then s script f P K st port (Got l) r.notes i r.none;
        };
      }
    where
      theirs : (held : Port) → w.ports port ≡ Some held → held.letters ≡ l ∷ ls
      theirs held there = ap letters_at (sym there) ∙ letters

      same_shut : (held : Port) → held.letters ≡ l ∷ ls → held.is_closed ≡ false →
          (received held).is_closed ≡ false
      same_shut held is shut = rw is shut

      lead_one : (held : Port) → held.letters ≡ l ∷ ls →
          after 1 script (f port) port (full held (side (Now ends) [])) (Got l)
          ≡ full (received held) (side (Now ends)
          (all_due (answer_to script (f port) (received held).dids (told_exactly l.bytes))))
      lead_one held is =
          subst (λ ms. after 1 script (f port) port (full held (side (Now ends) [])) (Got l)
          ≡ full (received_from ms held) (side (Now ends)
          (all_due (answer_to script (f port) (received_from ms held).dids
          (told_exactly l.bytes)))))
          (sym is) refl

      leads : (one : Port) → w.ports port ≡ Some one → (held : Port) → w.ports port ≡ Some held →
          after 1 script (f port) port (full held (side (Now ends) [])) (Got l)
          ≡ full (received held) (side (Now ends)
          (all_due (answer_to script (f port) (received one).dids (told_exactly l.bytes))))
      leads one is held there =
          let two : Some held ≡ Some one = sym there ∙ is in
          let same : held ≡ one = cc in
          lead_one held (theirs held there)
          ∙ ap (λ (p : Port). full (received held) (side (Now ends)
          (all_due (answer_to script (f port) (received p).dids (told_exactly l.bytes))))) same

  open_stand : (T : ℕ → Stand) (port : ℕ) (w : World) → AllIdle script f T →
      is_in script f port ≡ true →
      At s script f P K st w T → is_open_port (w.ports port) ≡ true →
      T port ≡ side (Now (T port).ends) []
  open_stand T port w idle i r op =
      let here = r.are.at port i in
      let one : not here.held.is_closed ≡ true = ap is_open_port (sym here.there) ∙ op in
      let two : not (not (T port).is_open) ≡ true = ap not (sym here.shut) ∙ one in
      stand_is (T port) (idle port i).0 (twice (T port).is_open two) (idle port i).1
    where
      twice : (b : Bool) → not (not b) ≡ true → b ≡ true
      twice true is = refl
      twice false is = is

  letters_reached : (T : ℕ → Stand) (port : ℕ) (letters : List Letter) (l : Looked) →
      is_in script f port ≡ true → T port ≡ side (Now (T port).ends) [] →
      letters_at (l.world.ports port) ≡ letters → At s script f P K st l.world T →
      At s script f P K st (looked_at s script (f port) port letters l).world T
  letters_reached T port [] l i is are r = r
  letters_reached T port (letter ∷ letters) l i is are r =
      let E = (T port).ends in
      let got = get_reached T port E letter letters l.world i are
      (reached_as s script f P K st l.world T (put port (side (Now E) []) T) r
      (λ p _. sym (put_own port (side (Now E) []) T is p))) in
      let w = answered_by s script (f port) port (told_exactly letter.bytes)
      (at_port port received l.world) in
      reached_as s script f P K st w (put port (side (Now E) []) T) T
      (answer_reached T port (told_exactly letter.bytes)
      (at_port port received l.world) E got.held i
      got.there got.reached)
      (λ p _. put_own port (side (Now E) []) T is p)

  look_reached : (T : ℕ → Stand) → AllIdle script f T → (place port : ℕ) → f port ≡ place →
      is_in script f port ≡ true → (l : Looked) → At s script f P K st l.world T →
      At s script f P K st (looked s script place port l).world T
  look_reached T idle place port is i l r =
      subst (λ k. At s script f P K st (looked s script k port l).world T) is
      (by (is_open_port (l.world.ports port)) refl)
    where
      by : (c : Bool) → is_open_port (l.world.ports port) ≡ c →
          At s script f P K st
          (if c then looked_at s script (f port) port (letters_at
          (l.world.ports port)) l else l).world
          T
      by true op = letters_reached T port (letters_at (l.world.ports port)) l i
          (open_stand T port l.world idle i r op) refl r
      by false op = r

  round_reached : (T : ℕ → Stand) → AllIdle script f T → (place : ℕ) (ps : List ℕ) →
      ArePlaced script f place ps →
      (l : Looked) → At s script f P K st l.world T →
      At s script f P K st (round s script place ps l).world T
  round_reached T idle place [] placed l r = r
  round_reached T idle place (p ∷ ps) placed l r =
      round_reached T idle (place + 1) ps placed.2 (looked s script place p l)
      (look_reached T idle place p placed.0 placed.1 l r)

  pub emptied_reached : (T : ℕ → Stand) → AllIdle script f T → ArePlaced script f 0 script.ports →
      (rounds : ℕ)
      (w : World) → At s script f P K st w T → At s script f P K st (emptied_in rounds s script w) T
  emptied_reached T idle placed zero w r = r
  emptied_reached T idle placed (suc rounds) w r =
      on (emptied_in rounds s script) (emptied_reached T idle placed rounds)
      (round s script 0 script.ports (record { world = w; found = false }))
      (round_reached T idle 0 script.ports placed (record { world = w; found = false }) r)
    where
      by : (more : World → World) → ((v : World) → At s script f P K st v T →
          At s script f P K st (more v) T) →
          (w : World) (c : Bool) → At s script f P K st w T →
          At s script f P K st (if c then more w else w) T
      by more keeps w true r = keeps w r
      by more keeps w false r = r

      on : (more : World → World) → ((v : World) → At s script f P K st v T →
          At s script f P K st (more v) T) →
          (l : Looked) → At s script f P K st l.world T → At s script f P K st
          (go_on_while more l) T
      on more keeps l r = by more keeps l.world l.found r

-- ---- stages that follow

module _ (s : Setting) (script : ScriptValue) (f : ℕ → ℕ) (P : Staged) (K : Goes s script f P) where
  pub later_reached : (st u : Stage) (T : ℕ → Stand) (w : World) → Follows script st u →
      st.is_over ≡ u.is_over → At s script f P K st w T → At s script f P K u w T
  later_reached st u T w follows same r = record {
    notes = r.notes;
    kept = K.goes_on st u w.entries w.ports r.notes follows same r.kept;
    are = r.are;
    none = r.none;
  }

  pub over_reached : (st u : Stage) (T : ℕ → Stand) (w : World) → Follows script st u →
      IsOver script u → AllIdle script f T → At s script f P K st w T → At s script f P K u w T
  over_reached st u T w follows over idle r = record {
    notes = r.notes;
    kept = K.opens_up st u w.entries w.ports r.notes follows over
        (λ p i. ap (λ (t : Standing). t.owed) (r.are.at p i).stands ∙ (idle p i).0) r.kept;
    are = r.are;
    none = r.none;
  }

  -- ---- frames

  -- the stage at this time, once these lines took effect
  abbrev pub at_time : ℕ → List Down → Stage
  at_time time fallen = record {
    is_over = true;
    early = length script.ports;
    late = 0;
    time = time;
    fallen = fallen;
  }

  enter_reached : (T : ℕ → Stand) (number time : ℕ) (fallen : List Down) (card : Card)
      (w : World) → IsFresh number (Some card) → time ≤ 2 * number →
      At s script f P K (at_time time fallen) w T → (queue : ℕ) (bypass : Bool) (table : ℕ) →
      At s script f P K (at_time (2 * number + 1) fallen)
      (arrived s w (arrival_to queue bypass table card)) T
  enter_reached T number time fallen card w fresh less r queue bypass table =
      let a = arrival_to queue bypass table card in
      let st = at_time time fallen in
      subst (λ n. At s script f P K (at_time (2 * n + 1) fallen) (arrived s w a) T) fresh.1
      (record {
        notes = r.notes;
        kept = K.enters st w r.notes a (record {
          over = (refl, refl);
          visit = omega (arith, fresh.0);
          late = refl;
          time = omega (arith, less, fresh.1);
        }) r.kept;
        are = all_arrive script f r.notes T (state_of w.entries a.queue) a
            (left_at_once w a (room_for s w a)) w.ports r.are;
        none = r.none;
      })

  -- a frame of which nothing arrives
  passed_over : (T : ℕ → Stand) (number time : ℕ) (fallen : List Down) (w : World) →
      time ≤ 2 * number → At s script f P K (at_time time fallen) w T →
      At s script f P K (at_time (2 * number + 1) fallen) w T
  passed_over T number time fallen w less r =
      later_reached (at_time time fallen) (at_time (2 * number + 1) fallen) T w (record {
        early = omega arith;
        late = omega arith;
        time = omega (arith, less);
        fallen = refl;
      }) refl r

  feed_reached : LeaveAlone → (T : ℕ → Stand) (number time : ℕ) (fallen : List Down)
      (card : Option Card) (w : World) → IsFresh number card → time ≤ 2 * number →
      At s script f P K (at_time time fallen) w T →
      At s script f P K (at_time (2 * number + 1) fallen) (fed s card w) T
  feed_reached leaves T number time fallen None w fresh less r =
      passed_over T number time fallen w less r
  feed_reached leaves T number time fallen (Some card) w fresh less r =
      let st = at_time (2 * number + 1) fallen in
      carry_first leaves s (λ es ports. Reached s script f P K st es ports T)
      (MayArrive script st)
      (λ es a later come. record { over = (refl, refl); visit = later; come = come })
      (λ v a may r. arrive_reached s script f P K st T v a may r) enough_arrivals (entered w card)
      card (next s.tables s.key card 1)
      (λ queue bypass table. enter_reached T number time fallen card (entered w card) fresh less r
      queue bypass table)
      (passed_over T number time fallen w less r)

  -- lines that are all after the same frame
  abbrev pub AreAfter : ℕ → List Down → Type 0
  AreAfter number [] = Unit {0}
  AreAfter number (d ∷ ds) = (d.after ≡ number) × AreAfter number ds

  pub are_after : (number : ℕ) (ds : List Down) → AreAfter number (filter (is_after number) ds)
  are_after number [] = tt
  are_after number (d ∷ ds) = by (cases_Bool (d.after == number)) (are_after number ds)
    where
      by : ((d.after == number) ≡ true) ⊎ ((d.after == number) ≡ false) →
          AreAfter number (filter (is_after number) ds) →
          AreAfter number (filter (is_after number) (d ∷ ds))
      by (inl h) more = rw h (eqb-true d.after number h, more)
      by (inr h) more = rw h more

  pub down_reached : (T : ℕ → Stand) (number time : ℕ) (fallen ds : List Down) (w : World) →
      AreAfter number ds → time ≤ 2 * number + 1 →
      At s script f P K (at_time time fallen) w T →
      At s script f P K (at_time (2 * number + 1) (fallen ++ ds)) (all_down ds w) T
  down_reached T number time fallen [] w after less r =
      later_reached (at_time time fallen) (at_time (2 * number + 1) (fallen ++ [])) T w
      (record {
        early = omega arith;
        late = omega arith;
        time = less;
        fallen = sym (append-nil fallen);
      }) refl r
  down_reached T number time fallen (d ∷ ds) w after less r =
      let st = at_time time fallen in
      let v = without_device w d.device in
      subst (λ ls. At s script f P K (at_time (2 * number + 1) ls) (all_down ds v) T)
      (append_assoc fallen (d ∷ []) ds)
      (down_reached T number (2 * d.after + 1) (fallen ++ d ∷ []) ds v after.1
      (omega (arith, after.0))
      (record {
        notes = r.notes;
        kept = K.falls st w r.notes d (refl, refl) refl (omega (arith, less, after.0)) r.kept;
        are = r.are;
        none = r.none;
      }))

  pub frame_reached : LeaveAlone → (T : ℕ → Stand) → AllIdle script f T →
      ArePlaced script f 0 script.ports → (rounds : ℕ) (c : Capture) (number : ℕ) (g : Frame)
      (time : ℕ) (fallen : List Down) (w : World) → time ≤ 2 * number →
      At s script f P K (at_time time fallen) w T →
      At s script f P K (at_time (2 * number + 1) (fallen ++ downs_after script number))
      (frame_passed rounds s script c number g w) T
  frame_reached leaves T idle placed rounds c number g time fallen w less r =
      by (is_pause script.pace number) (all_down (downs_after script number)
      (fed s (card_of c number g) w))
      (down_reached T number (2 * number + 1) fallen (downs_after script number)
      (fed s (card_of c number g) w) (are_after number script.downs) (omega arith)
      (feed_reached leaves T number time fallen (card_of c number g) w
      (is_fresh c number g) less r))
    where
      st : Stage
      st = at_time (2 * number + 1) (fallen ++ downs_after script number)

      by : (b : Bool) (v : World) →
          At s script f P K (at_time (2 * number + 1) (fallen ++ downs_after script number)) v T →
          At s script f P K (at_time (2 * number + 1) (fallen ++ downs_after script number))
          (if b then emptied_in rounds s script v else v) T
      by true v r = emptied_reached s script f P K
          (at_time (2 * number + 1) (fallen ++ downs_after script number))
          (refl, refl) T idle placed
          rounds v r
      by false v r = r

  pub frames_reached : LeaveAlone → (T : ℕ → Stand) → AllIdle script f T →
      ArePlaced script f 0 script.ports → (rounds : ℕ) (c : Capture) (number time : ℕ)
      (fs : List Frame) (fallen : List Down) (w : World) → time ≤ 2 * number →
      At s script f P K (at_time time fallen) w T →
      (last : ℕ) × At s script f P K
      (at_time last (fallen ++ downs_from script number (length fs)))
      (frames_passed rounds s script c number fs w) T
  frames_reached leaves T idle placed rounds c number time [] fallen w less r = (
    time,
    subst (λ ls. At s script f P K (at_time time ls) w T) (sym (append-nil fallen)) r,
  )
  frames_reached leaves T idle placed rounds c number time (g ∷ gs) fallen w less r =
      let v = frame_passed rounds s script c number g w in
      let more = frames_reached leaves T idle placed rounds c (number + 1) (2 * number + 1) gs
      (fallen ++ downs_after script number) v (omega arith)
      (frame_reached leaves T idle placed rounds c number g time fallen w less r) in (
        more.0,
        subst (λ ls. At s script f P K (at_time more.0 ls)
            (frames_passed rounds s script c (number + 1) gs v) T)
            (append_assoc fallen (downs_after script number)
            (downs_from script (number + 1) (length gs))) more.1,
      )
