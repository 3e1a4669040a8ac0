-- The mailboxes of a run are empty at its end: rounds go on while they find something, and there
-- are more of them than notices can come.
use Rattle.std.proofs.Common.{◌≡◌, ◌≤◌, ◌<◌, ◌⊎◌, ◌∙◌, ◌+◌, ◌*◌, ℕ, zero, suc, List, [], ◌∷◌}
use Rattle.std.proofs.Common.{Option, Some, None, Bool, true, false, refl, sym, ap, subst, inl, inr}
use Rattle.std.proofs.Common.{arith, length}
use Rattle.std.specs.Prelude.{option_map, ◌==◌, map}
use Rattle.std.specs.Prelude.{nat_eq, if◌then◌else◌, slice_get, All}
use Rattle.std.specs.List.{list_any}
use Rattle.std.proofs.lemmas.Bool.{cases_Bool, eq-eqb, eqb-true, ne_eqb}
use Rattle.std.proofs.lemmas.List.Elements.{All-head, All-tail}
use Rattle.std.proofs.Math.Path.{fun_ext}
use Rattle.packet_entry.specs.declared.packet.Card.{Card}
use Rattle.packet_entry.specs.declared.letter.Letter.{Letter}
use Rattle.netlink_codec.specs.Messages.{NetlinkMessage}
use Rattle.nfqa_msgs.specs.NoticeMeaning.{notice_of}
use Rattle.nfqa_msgs.specs.NoticeWriting.{Told}
use Rattle.hook_chain.specs.Rules.{RuleTables}
use Rattle.hook_chain.specs.Route.{next}
use Rattle.pcap_io.specs.declared.capture.Capture.{Capture}
use Rattle.pcap_io.specs.declared.capture.Frame.{Frame}
use Rattle.histories.specs.declared.entry.Entry.{Entry}
use Rattle.histories.specs.declared.histories.Histories.{Histories}
use Rattle.histories.specs.declared.log.AskWords.{AskWords}
use Rattle.histories.specs.Numbers.{queue_count}
use Rattle.script_lines.specs.declared.ask.Ask.{Ask}
use Rattle.script_lines.specs.declared.ask.Ask.TheVariants.{Words, Close}
use Rattle.script_lines.specs.declared.line.Down.{Down}
use Rattle.inspector_script.specs.Scripts.{ScriptValue, opening, closing}
use Rattle.packet_moves.specs.declared.setting.Setting.{Setting}
use Rattle.packet_moves.specs.World.{World, Port, at_port, received, opened, closed}
use Rattle.packet_moves.specs.Messages.{call_at}
use Rattle.packet_moves.specs.Planes.{beginning, opened_ports, entered, without_device}
use Rattle.run_parts.specs.Ports.{AreApart, ArePlaced, HavePlaces}
use Rattle.solo_schedule.specs.Numbers.{enough_arrivals}
use Rattle.run_parts.specs.Entering.{card_of}
use Rattle.nfqa_msgs.specs.NoticeTexts.{told_exactly}
use Rattle.run_parts.specs.Closing.{IsClosing}
use Rattle.solo_schedule.specs.LettersLeft.{left_in}
use Rattle.run_parts.specs.Log.{Note}
use Rattle.run_parts.specs.Run.{IsMadeBy}
use Rattle.solo_schedule.specs.Sending.{sent, all_sent, done, all_done}
use Rattle.run_parts.specs.Datagrams.{messages_in, bytes_of}
use Rattle.solo_schedule.specs.Schedule.{Looked, is_open_port, letters_at, received_in, answered_by}
use Rattle.solo_schedule.specs.Schedule.{looked_at, looked, round}
use Rattle.solo_schedule.specs.Schedule.{go_on_while, emptied_in, opened_all}
use Rattle.solo_schedule.specs.Schedule.{all_down, fed, is_pause, frame_passed}
use Rattle.run_parts.specs.Feeder.{downs_after}
use Rattle.solo_schedule.specs.Schedule.{frame_fed, paused, until_open, until_fed}
use Rattle.solo_schedule.specs.Schedule.{frames_passed, ended_all, rounds_for, until_ends}
use Rattle.solo_schedule.specs.Schedule.{setting_of, run, IsSolo}
use Rattle.run_parts.specs.Ports.{place_in}
use Rattle.solo_schedule.proofs.Closings.{Laws}
use Rattle.solo_schedule.proofs.ClosedPorts.{is_shut}
use Rattle.solo_schedule.proofs.LaterVisits.{LeaveAlone, IsFresh, is_fresh}
use Rattle.solo_schedule.proofs.EmptyStart.{Conserve}
use Rattle.solo_schedule.proofs.RunInvariant.{opening_words}
use Rattle.solo_schedule.proofs.RunInvariant.{answer_words, closing_end, stays_open}
use Rattle.solo_schedule.proofs.RunInvariant.{done_append}
use Rattle.solo_schedule.proofs.Pools.{weight_none}
use Rattle.solo_schedule.proofs.Mailboxes.{in_boxes}
use Rattle.solo_schedule.proofs.LetterBudget.{AreBelow, HeldIn, more_held, sent_held, get_held}
use Rattle.solo_schedule.proofs.LetterBudget.{carry_held, down_held, close_held, but}

-- ---- queue numbers

below_of : (es : List Entry) → All (λ (e : Entry). e.queue < queue_count) es → AreBelow es
below_of [] all queue out = refl
below_of (e ∷ es) all queue out =
    let here : e.queue < queue_count = All-head (λ (e : Entry). e.queue < queue_count) e es all in
    rw (ne_eqb e.queue queue (λ same. absurd (omega (arith, same, here, out))))
    (below_of es (All-tail (λ (e : Entry). e.queue < queue_count) e es all) queue out)

-- ---- ports

abbrev pub AllOpen : (ℕ → Bool) → List ℕ → Type 0
AllOpen o [] = Unit {0}
AllOpen o (q ∷ qs) = (o q ≡ true) × AllOpen o qs

-- the open ones of these ports have empty boxes
abbrev pub AllQuiet : (ℕ → Bool) → World → List ℕ → Type 0
AllQuiet o w [] = Unit {0}
AllQuiet o w (q ∷ qs) = (o q ≡ true → letters_at (w.ports q) ≡ []) × AllQuiet o w qs

abbrev pub QuietIn : (ℕ → Bool) → World → Type 0
QuietIn o w = (p : ℕ) → o p ≡ true → letters_at (w.ports p) ≡ []

quiet_of : (o : ℕ → Bool) (w : World) (qs : List ℕ) → AllQuiet o w qs → (p : ℕ) →
    list_any (nat_eq p) qs ≡ true → o p ≡ true → letters_at (w.ports p) ≡ []
quiet_of o w [] all p wrong op = absurd (cc)
quiet_of o w (q ∷ qs) all p within op =
    by (cases_Bool (nat_eq p q)) (quiet_of o w qs all.1 p)
  where
    by : (nat_eq p q ≡ true) ⊎ (nat_eq p q ≡ false) →
        (list_any (nat_eq p) qs ≡ true → o p ≡ true → letters_at (w.ports p) ≡ []) →
        letters_at (w.ports p) ≡ []
    by (inl h) so =
        let same : p ≡ q = eqb-true p q h in
        ap (λ k. letters_at (w.ports k)) same ∙ all.0 (ap o (sym same) ∙ op)
    by (inr h) so = so (rw h at within) op

open_but : (o : ℕ → Bool) (port : ℕ) (qs : List ℕ) → list_any (nat_eq port) qs ≡ false →
    AllOpen o qs → AllOpen (but port o) qs
open_but o port [] out all = tt
open_but o port (q ∷ qs) out all =
    by (cases_Bool (nat_eq port q)) (λ rest. open_but o port qs rest all.1)
  where
    by : (nat_eq port q ≡ true) ⊎ (nat_eq port q ≡ false) →
        (list_any (nat_eq port) qs ≡ false → AllOpen (but port o) qs) →
        AllOpen (but port o) (q ∷ qs)
    by (inl h) so =
        let holds : list_any (nat_eq port) (q ∷ qs) ≡ true = rw h refl in
        let wrong : true ≡ false = sym holds ∙ out in
        absurd (cc)
    by (inr h) so =
        let other : (q == port) ≡ false =
        ne_eqb q port (λ same.
        let holds : nat_eq port q ≡ true = eq-eqb port q (sym same) in
        let no : true ≡ false = sym holds ∙ h in absurd (cc)) in (
          rw other (all.0),
          so (rw h at out),
        )

-- ---- looks and rounds

module _ (laws : Laws) (conserve : Conserve) (leaves : LeaveAlone) (s : Setting)
    (script : ScriptValue) (apart : AreApart script.ports) where
  abbrev pub Is : (ℕ → Bool) → World → ℕ → Type 0
  Is o w b = HeldIn script.ports o w b

  -- what holds behind each message
  pub sends_keep : (o : ℕ → Bool) (b : ℕ) (behind : World → World) (R : World → Type 0) →
      ((w : World) → R w → Is o w b) → ((w : World) → Is o w b → R (behind w)) → (port : ℕ) →
      o port ≡ true → (ms : List NetlinkMessage) (w : World) → R w →
      R (all_sent behind s port ms w)
  sends_keep o b behind R from on port op [] w is = is
  sends_keep o b behind R from on port op (m ∷ ms) w is =
      sends_keep o b behind R from on port op ms (behind (sent s port m w))
      (on (sent s port m w)
      (sent_held laws conserve leaves s script.ports apart o w port (call_at (w.ports port)) m b op
      (from w is)))

  words_keep : (o : ℕ → Bool) (b : ℕ) (behind : World → World) (R : World → Type 0) →
      ((w : World) → R w → Is o w b) → ((w : World) → Is o w b → R (behind w)) → (port : ℕ) →
      o port ≡ true → (all : List AskWords) (w : World) → R w →
      R (all_done behind s port (map Words all) w)
  words_keep o b behind R from on port op [] w is = is
  words_keep o b behind R from on port op (a ∷ more) w is =
      words_keep o b behind R from on port op more (done behind s port (Words a) w)
      (sends_keep o b behind R from on port op
      (messages_in (bytes_of port (call_at (w.ports port)) a)) w is)

  -- where nothing is done behind a message
  plain_words : (o : ℕ → Bool) (b port : ℕ) → o port ≡ true → (asks : List Ask)
      (all : List AskWords) → asks ≡ map Words all → (w : World) → Is o w b →
      Is o (all_done (λ v. v) s port asks w) b
  plain_words o b port op asks all same w is =
      subst (λ as_asked. Is o (all_done (λ v. v) s port as_asked w) b) (sym same)
      (words_keep o b (λ v. v) (λ v. Is o v b) (λ v so. so) (λ v so. so) port op all w is)

  answers_held : (o : ℕ → Bool) (b place port : ℕ) → o port ≡ true → (told : Option Told)
      (w : World) → Is o w b → Is o (answered_by s script place port told w) b
  answers_held o b place port op None w is = is
  answers_held o b place port op (Some told) w is =
      let words = answer_words (notice_of told) (received_in (w.ports port))
      (slice_get script.blocks place) in
      plain_words o b port op _ words.0 words.1 w is

  data Look (o : ℕ → Bool) (l r : Looked) (b port : ℕ) : Type 0 where
    Finds : r.found ≡ true → (c : ℕ) → suc c ≤ b → Is o r.world c → Look o l r b port
    Passes : r ≡ l → (o port ≡ true → letters_at (l.world.ports port) ≡ []) →
        Look o l r b port

  look_at : (o : ℕ → Bool) (place port : ℕ) (l : Looked) (b : ℕ) →
      list_any (nat_eq port) script.ports ≡ true → o port ≡ true → (letters : List Letter) →
      letters_at (l.world.ports port) ≡ letters → Is o l.world b →
      Look o l (looked_at s script place port letters l) b port
  look_at o place port l b within op [] none is = Passes refl (λ so. none)
  look_at o place port l b within op (letter ∷ ls) some is =
      let got = get_held laws conserve leaves s script.ports apart o l.world port b letter ls within
      op some is in
      Finds refl got.rest got.fewer
      (answers_held o got.rest place port op (told_exactly letter.bytes)
      (at_port port received l.world) got.held)

  look_held : (o : ℕ → Bool) (place port : ℕ) (l : Looked) (b : ℕ) →
      list_any (nat_eq port) script.ports ≡ true → Is o l.world b →
      Look o l (looked s script place port l) b port
  look_held o place port l b within is = by (is_open_port (l.world.ports port)) refl
    where
      by : (c : Bool) → is_open_port (l.world.ports port) ≡ c →
          Look o l
          (if c then looked_at s script place port (letters_at (l.world.ports port)) l else l) b
          port
      by true so =
          look_at o place port l b within (sym (is.is_open port) ∙ so)
          (letters_at (l.world.ports port)) refl is
      by false so = Passes refl (λ op.
          let wrong : true ≡ false = sym op ∙ sym (is.is_open port) ∙ so in absurd (cc))

  pub data Round (o : ℕ → Bool) (l r : Looked) (b : ℕ) (qs : List ℕ) : Type 0 where
    Found : r.found ≡ true → (c : ℕ) → suc c ≤ b → Is o r.world c → Round o l r b qs
    Same : r ≡ l → AllQuiet o l.world qs → Round o l r b qs

  pub round_held : (o : ℕ → Bool) (place : ℕ) (qs : List ℕ) (l : Looked) (b : ℕ) →
      ArePlaced script (λ p. place_in p script.ports) place qs → Is o l.world b →
      Round o l (round s script place qs l) b qs
  round_held o place [] l b placed is = Same refl tt
  round_held o place (q ∷ qs) l b placed is =
      by (looked s script place q l) (look_held o place q l b placed.1 is)
      (λ m c so. round_held o (place + 1) qs m c placed.2 so)
    where
      after_found : (m r : Looked) (c : ℕ) → m.found ≡ true → suc c ≤ b → Is o m.world c →
          Round o m r c qs → Round o l r b (q ∷ qs)
      after_found m r c found less so (Found holds d fewer held) =
          Found holds d (omega (arith, less, fewer)) held
      after_found m r c found less so (Same same quiet) =
          Found (ap (λ (k : Looked). k.found) same ∙ found) c less
          (subst (λ (k : Looked). Is o k.world c) (sym same) so)

      after_same : (m r : Looked) → m ≡ l → (o q ≡ true → letters_at (l.world.ports q) ≡ []) →
          Round o m r b qs → Round o l r b (q ∷ qs)
      after_same m r same none (Found holds d fewer held) = Found holds d fewer held
      after_same m r same none (Same more quiet) =
          Same (more ∙ same)
          (none, subst (λ (k : Looked). AllQuiet o k.world qs) same quiet)

      by : (m : Looked) → Look o l m b q →
          ((m : Looked) (c : ℕ) → Is o m.world c →
          Round o m (round s script (place + 1) qs m) c qs) →
          Round o l (round s script (place + 1) qs m) b (q ∷ qs)
      by m (Finds found c less so) on =
          after_found m (round s script (place + 1) qs m) c found less so (on m c so)
      by m (Passes same none) on =
          after_same m (round s script (place + 1) qs m) same none
          (on m b (subst (λ (k : Looked). Is o k.world b) (sym same) is))

  -- after more rounds than letters can come the boxes of open ports are empty
  pub record Emptied (o : ℕ → Bool) (w : World) (b n : ℕ) : Type 0 where
    pub held : Is o w b
    quiet : b < n → AllQuiet o w script.ports

  pub emptied_held : ArePlaced script (λ p. place_in p script.ports) 0 script.ports → (n : ℕ)
      (o : ℕ → Bool) (w : World) (b : ℕ) → Is o w b →
      Emptied o (emptied_in n s script w) b n
  emptied_held placed zero o w b is = record {
    held = is;
    quiet = λ wrong. absurd (omega (arith, wrong));
  }
  emptied_held placed (suc n) o w b is =
      by (round s script 0 script.ports (record { world = w; found = false }))
      (round_held o 0 script.ports (record { world = w; found = false }) b placed is)
      (emptied_in n s script) (emptied_held placed n o)
    where
      by : (r : Looked) → Round o (record { world = w; found = false }) r b script.ports →
          (more : World → World) →
          ((v : World) (c : ℕ) → Is o v c → Emptied o (more v) c n) →
          Emptied o (go_on_while more r) b (suc n)
      by r (Found holds c less held) more on =
          subst (λ f. Emptied o (if f then more r.world else r.world) b (suc n)) (sym holds)
          (record {
            held = more_held script.ports o (more r.world).entries (more r.world).ports c b
                (omega (arith, less)) (on r.world c held).held;
            quiet = λ below. (on r.world c held).quiet (omega (arith, below, less));
          })
      by r (Same same quiet) more on =
          subst (λ (k : Looked). Emptied o (go_on_while more k) b (suc n)) (sym same)
          (record { held = is; quiet = λ below. quiet })

  -- ---- the parts of a run

  pub opens_held : (o : ℕ → Bool) (b place : ℕ) (qs : List ℕ) (w : World) → AllOpen o qs →
      Is o w b → Is o (opened_all s script place qs w) b
  opens_held o b place [] w open_all is = is
  opens_held o b place (q ∷ qs) w open_all is =
      let words = opening_words (slice_get script.blocks place) in
      opens_held o b (place + 1) qs (all_done (λ v. v) s q (opening script place) w) open_all.1
      (plain_words o b q open_all.0 (opening script place) words.0 words.1 w is)

  pub downs_held : (o : ℕ → Bool) (b : ℕ) (ds : List Down) (w : World) → Is o w b →
      Is o (all_down ds w) b
  downs_held o b [] w is = is
  downs_held o b (d ∷ ds) w is =
      downs_held o b ds (without_device w d.device)
      (down_held laws conserve leaves s script.ports apart o w d.device b is)

  fed_held : (o : ℕ → Bool) (b number : ℕ) (card : Option Card) (w : World) →
      IsFresh number card → Is o w b → Is o (fed s card w) (b + 32)
  fed_held o b number None w fresh is =
      more_held script.ports o w.entries w.ports b (b + 32) (omega arith) is
  fed_held o b number (Some card) w fresh is =
      carry_held laws conserve leaves s script.ports apart o enough_arrivals (entered w card) card
      (next s.tables s.key card 1) b (b + 32) (omega (arith, fresh.0)) (omega arith) is

  -- one frame, before and after a pause
  pub frame_held : (o : ℕ → Bool) (c : Capture) (number : ℕ) (g : Frame) (w : World) (b : ℕ) →
      Is o w b → Is o (frame_fed s script c number g w) (b + 32)
  frame_held o c number g w b is =
      downs_held o (b + 32) (downs_after script number) (fed s (card_of c number g) w)
      (fed_held o b number (card_of c number g) w (is_fresh c number g) is)

  pub pause_held : ArePlaced script (λ p. place_in p script.ports) 0 script.ports → (rounds : ℕ)
      (o : ℕ → Bool) (number : ℕ) (v : World) (b : ℕ) → Is o v b →
      Is o (paused rounds s script number v) b
  pause_held placed rounds o number v b is = by (is_pause script.pace number)
    where
      by : (p : Bool) → Is o (if p then emptied_in rounds s script v else v) b
      by true = (emptied_held placed rounds o v b is).held
      by false = is

  pub frames_held : ArePlaced script (λ p. place_in p script.ports) 0 script.ports → (rounds : ℕ)
      (o : ℕ → Bool) (c : Capture) (number : ℕ) (fs : List Frame) (w : World) (b : ℕ) →
      Is o w b → Is o (frames_passed rounds s script c number fs w) (b + 32 * length fs)
  frames_held placed rounds o c number [] w b is =
      more_held script.ports o w.entries w.ports b (b + 32 * 0) (omega arith) is
  frames_held placed rounds o c number (g ∷ gs) w b is =
      let v = frame_passed rounds s script c number g w in
      let u = frames_passed rounds s script c (number + 1) gs v in
      more_held script.ports o u.entries u.ports (b + 32 + 32 * length gs)
      (b + 32 * length (g ∷ gs)) (omega arith)
      (frames_held placed rounds o c (number + 1) gs v (b + 32)
      (pause_held placed rounds o number (frame_fed s script c number g w) (b + 32)
      (frame_held o c number g w b is)))

  -- ---- the ends

  abbrev pub Only : (ℕ → Bool) → Type 0
  Only o = (p : ℕ) → o p ≡ true → list_any (nat_eq p) script.ports ≡ true

  -- the boxes of open ports are empty
  pub record Calm (o : ℕ → Bool) (b : ℕ) (w : World) : Type 0 where
    pub held : Is o w b
    pub quiet : QuietIn o w

  pub calm_then : ArePlaced script (λ p. place_in p script.ports) 0 script.ports → (rounds : ℕ)
      (o : ℕ → Bool) (b : ℕ) → b < rounds → Only o → (w : World) → Is o w b →
      Calm o b (emptied_in rounds s script w)
  calm_then placed rounds o b more only w is =
      let e = emptied_held placed rounds o w b is in
      record {
        held = e.held;
        quiet = λ p op. quiet_of o (emptied_in rounds s script w) script.ports (e.quiet more) p
            (only p op) op;
      }

  -- once some ports have ended
  pub record Ended (b : ℕ) (qs : List ℕ) (w : World) : Type 0 where
    pub o : ℕ → Bool
    pub only : Only o
    pub open_all : AllOpen o qs
    pub calm : Calm o b w

  shut_calm : (behind : World → World) (o : ℕ → Bool) (b q : ℕ) (qs : List ℕ) (stays : Bool)
      (w : World) → list_any (nat_eq q) qs ≡ false → o q ≡ true → Only o → AllOpen o qs →
      Calm o b w →
      Ended b qs (all_done behind s q (if stays then [] else Close ∷ []) w)
  shut_calm behind o b q qs true w out op only open_all calm = record {
    o = o;
    only = only;
    open_all = open_all;
    calm = calm;
  }
  shut_calm behind o b q qs false w out op only open_all calm = record {
    o = but q o;
    only = λ p holds. only p (fewer (p == q) (o p) holds);
    open_all = open_but o q qs out open_all;
    calm = record {
      held = close_held laws conserve leaves s script.ports apart o w q b op (calm.quiet q op)
          calm.held;
      quiet = λ p holds. same (p == q) (w.ports p) (calm.quiet p (fewer (p == q) (o p) holds));
    };
  }
    where
      fewer : (c d : Bool) → (if c then false else d) ≡ true → d ≡ true
      fewer true d wrong = absurd (cc)
      fewer false d holds = holds

      same : (c : Bool) (p : Option Port) → letters_at p ≡ [] →
          letters_at (if c then option_map closed p else p) ≡ []
      same true None none = refl
      same true (Some held) none = none
      same false p none = none

  -- one port ends
  pub end_calm : ArePlaced script (λ p. place_in p script.ports) 0 script.ports →
      (rounds b : ℕ) → b < rounds → (place q : ℕ) (qs : List ℕ) (w : World) →
      AreApart (q ∷ qs) → Ended b (q ∷ qs) w →
      Ended b qs (all_done (emptied_in rounds s script) s q (closing script place) w)
  end_calm placed rounds b more place q qs w apart_qs is =
      let e = closing_end (slice_get script.blocks place) in
      let stays = stays_open (slice_get script.blocks place) in
      let last = if stays then [] else Close ∷ [] in
      let behind = emptied_in rounds s script in
      let mid = all_done behind s q (map Words e.all) w in
      let calm : Calm is.o b mid =
      words_keep is.o b behind (Calm is.o b) (λ v so. so.held)
      (calm_then placed rounds is.o b more is.only) q is.open_all.0 e.all w is.calm in
      subst (λ (asks : List Ask). Ended b qs (all_done behind s q asks w)) (sym e.is)
      (subst (λ (v : World). Ended b qs v) (sym (done_append behind s q (map Words e.all) last w))
      (shut_calm behind is.o b q qs stays mid apart_qs.0 is.open_all.0 is.only is.open_all.1
      calm))

  ends_calm : ArePlaced script (λ p. place_in p script.ports) 0 script.ports → (rounds b : ℕ) →
      b < rounds → (place : ℕ) (qs : List ℕ) (w : World) → AreApart qs → Ended b qs w →
      Ended b [] (ended_all rounds s script place qs w)
  ends_calm placed rounds b more place [] w apart_qs is = is
  ends_calm placed rounds b more place (q ∷ qs) w apart_qs is =
      ends_calm placed rounds b more (place + 1) qs
      (all_done (emptied_in rounds s script) s q (closing script place) w) apart_qs.1
      (end_calm placed rounds b more place q qs w apart_qs is)

-- ---- the whole run

pub all_open : (script : ScriptValue) (place : ℕ) (qs : List ℕ) →
    ArePlaced script (λ p. place_in p script.ports) place qs →
    AllOpen (λ p. list_any (nat_eq p) script.ports) qs
all_open script place [] placed = tt
all_open script place (q ∷ qs) placed = (placed.1, all_open script (place + 1) qs placed.2)

no_letters : (c : Bool) → letters_at (if c then Some opened else None) ≡ []
no_letters true = refl
no_letters false = refl

empty_boxes : (order qs : List ℕ) → in_boxes (opened_ports order) qs ≡ 0
empty_boxes order [] = refl
empty_boxes order (q ∷ qs) =
    omega (
      arith,
      ap (λ (ls : List Letter). length ls) (no_letters (list_any (nat_eq q) order)),
      empty_boxes order qs,
    )

pub begun_held : (script : ScriptValue) →
    HeldIn script.ports (λ p. list_any (nat_eq p) script.ports) (beginning script.ports) 0
begun_held script = record {
  n = 0;
  stock = record {
    pool = [];
    waits = λ queue. refl;
    early = refl;
    few = omega (arith, weight_none 32);
  };
  few = omega (arith, empty_boxes script.ports script.ports);
  is_open = λ p. opens (list_any (nat_eq p) script.ports);
  quiet = λ below p off. no_letters (list_any (nat_eq p) script.ports);
  shut = record { each = λ p queue below. shuts p (list_any (nat_eq p) script.ports) };
}
  where
    opens : (c : Bool) → is_open_port (if c then Some opened else None) ≡ c
    opens true = refl
    opens false = refl

    shuts : (p : ℕ) (c : Bool) → IsClosing p (is_shut (if c then Some opened else None)) []
    shuts p true = refl
    shuts p false = refl

-- at the end of a run
record AtEnd (script : ScriptValue) (w : World) : Type 0 where
  o : ℕ → Bool
  b : ℕ
  held : HeldIn script.ports o w b
  quiet : (p : ℕ) → o p ≡ true → letters_at (w.ports p) ≡ []

-- the script's ports
abbrev pub at_first : ScriptValue → ℕ → Bool
at_first script p = list_any (nat_eq p) script.ports

pub opened_held : Laws → Conserve → LeaveAlone → (script : ScriptValue)
    (tables : RuleTables) → HavePlaces script →
    HeldIn script.ports (at_first script) (until_open (setting_of script tables) script) 0
opened_held laws conserve leaves script tables places =
    let s = setting_of script tables in
    let apart = places.apart in
    let zero_world = beginning script.ports in
    downs_held laws conserve leaves s script apart (at_first script) 0 (downs_after script 0)
    (opened_all s script 0 script.ports zero_world)
    (opens_held laws conserve leaves s script apart (at_first script) 0 0 script.ports zero_world
    (all_open script 0 script.ports places.placed) (begun_held script))

pub before_last : Laws → Conserve → LeaveAlone → (script : ScriptValue)
    (tables : RuleTables) (c : Capture) → HavePlaces script →
    HeldIn script.ports (at_first script) (until_fed (setting_of script tables) script c)
    (0 + 32 * length c.frames)
before_last laws conserve leaves script tables c places =
    let s = setting_of script tables in
    frames_held laws conserve leaves s script places.apart
    places.placed (rounds_for c) (at_first script) c 1 c.frames (until_open s script) 0
    (opened_held laws conserve leaves script tables places)

pub before_end : (laws : Laws) (conserve : Conserve) (leaves : LeaveAlone) (script : ScriptValue)
    (tables : RuleTables) (c : Capture) (places : HavePlaces script) →
    Ended laws conserve leaves (setting_of script tables) script places.apart
    (0 + 32 * length c.frames) script.ports (until_ends (setting_of script tables) script c)
before_end laws conserve leaves script tables c places =
    let s = setting_of script tables in
    let placed = places.placed in
    let more : 0 + 32 * length c.frames < rounds_for c = omega arith in
    record {
      o = at_first script;
      only = λ p op. op;
      open_all = all_open script 0 script.ports placed;
      calm = calm_then laws conserve leaves s script places.apart placed
          (rounds_for c) (at_first script) (0 + 32 * length c.frames) more (λ p op. op)
          (until_fed s script c) (before_last laws conserve leaves script tables c places);
    }

run_ends : Laws → Conserve → LeaveAlone → (script : ScriptValue) (tables : RuleTables)
    (c : Capture) → HavePlaces script → AtEnd script (run script tables c)
run_ends laws conserve leaves script tables c places =
    let s = setting_of script tables in
    let apart = places.apart in
    let b = 0 + 32 * length c.frames in
    let more : b < rounds_for c = omega arith in
    let last = ends_calm laws conserve leaves s script apart places.placed
    (rounds_for c) b more 0 script.ports (until_ends s script c) apart
    (before_end laws conserve leaves script tables c places) in
    record { o = last.o; b = b; held = last.calm.held; quiet = last.calm.quiet }

pub open_boxes_empty : Laws → Conserve → LeaveAlone → (script : ScriptValue)
    (tables : RuleTables) (c : Capture) → HavePlaces script →
    (port : ℕ) → is_open_port ((run script tables c).ports port) ≡ true →
    left_in (run script tables c) port ≡ []
open_boxes_empty laws conserve leaves script tables c places port op =
    let is = run_ends laws conserve leaves script tables c places in
    is.quiet port (sym (is.held.is_open port) ∙ op)

pub all_boxes_empty : Laws → Conserve → LeaveAlone → (script : ScriptValue)
    (tables : RuleTables) (c : Capture) (h : Histories) →
    HavePlaces script → IsSolo script tables c h →
    All (λ (e : Entry). e.queue < queue_count) h.entries → (port : ℕ) →
    left_in (run script tables c) port ≡ []
all_boxes_empty laws conserve leaves script tables c h places solo small port =
    by (cases_Bool (is.o port))
  where
    is : AtEnd script (run script tables c)
    is = run_ends laws conserve leaves script tables c places

    below : AreBelow (run script tables c).entries
    below queue out =
        sym (solo.entries.same queue) ∙ below_of h.entries small queue out

    by : (is.o port ≡ true) ⊎ (is.o port ≡ false) → left_in (run script tables c) port ≡ []
    by (inl on) = is.quiet port on
    by (inr off) = is.held.quiet below port off

-- so what the histories are made by, they are made by with nothing left
pub made_with_nothing : Laws → Conserve → LeaveAlone → (script : ScriptValue)
    (tables : RuleTables) (c : Capture) (h : Histories) →
    HavePlaces script → IsSolo script tables c h →
    All (λ (e : Entry). e.queue < queue_count) h.entries →
    (notes : ℕ → List Note) × IsMadeBy 1 1 script (length c.frames) h notes
    (left_in (run script tables c)) →
    (notes : ℕ → List Note) × IsMadeBy 1 1 script (length c.frames) h notes (λ port. [])
made_with_nothing laws conserve leaves script tables c h places solo small made =
    let none : left_in (run script tables c) ≡ (λ port. []) =
    fun_ext (λ port. all_boxes_empty laws conserve leaves script tables c h places solo small port)
    in (
      made.0,
      subst (λ left. IsMadeBy 1 1 script (length c.frames) h made.0 left) none made.1,
    )
