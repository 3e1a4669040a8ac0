-- No call changes the parts of the locks that its pass has.
use Rattle.std.proofs.Common.{◌≡◌, ℕ, zero, suc, List, [], ◌∷◌, Option, Some, None, ap, ◌∙◌}
use Rattle.std.proofs.Common.{inl, inr}
use Rattle.std.specs.Prelude.{slice_set, option_map}
use Rattle.std.proofs.lemmas.List.{map-set}
use Rattle.std.proofs.lemmas.Option.{slice_get-map}
use Rattle.packet_entry.specs.declared.packet.Card.{Card}
use Rattle.hook_chain.specs.declared.chain.Decision.{Decision}
use Rattle.hook_chain.specs.declared.chain.Next.{Next}
use Rattle.hook_chain.specs.declared.chain.Next.TheVariants.{Released, To}
use Rattle.hook_chain.specs.Route.{next}
use Rattle.netlink_codec.specs.Messages.{NetlinkMessage}
use Rattle.nfqa_msgs.specs.declared.request.Decoded.{Decoded}
use Rattle.nfqa_msgs.specs.declared.request.Decoded.TheVariants as decoded
use Rattle.nfqa_msgs.specs.RequestReading as reading
use Rattle.queue_core.specs.Step.{Way}
use Rattle.histories.specs.declared.entry.Entry.{Entry}
use Rattle.histories.specs.declared.log.Did.{Did}
use Rattle.histories.specs.Happenings.{arrive}
use Rattle.histories.specs.States.{step_of}
use Rattle.packet_moves.specs.declared.fed.Fed.{Fed}
use Rattle.packet_moves.specs.declared.setting.Setting.{Setting}
use Rattle.packet_moves.specs.Calls.{next_call}
use Rattle.packet_moves.specs.Moving.{arrival_to, route_after}
use Rattle.turn_lock.specs.Parts.{Tree}
use Rattle.locked_place.specs.Turns.{IsTurn, LooksOn, GoesDownIn}
use Rattle.place_rows.specs.Rows.{Known, TurnsOne, IsTurnAt}
use Rattle.place_turns.specs.Trails.{Trail, MayLook, parts_of}
use Rattle.place_turns.specs.Moving.{Carries, Settles, IsFed}
use Rattle.place_turns.specs.Messages.{CarriesAll, CarriesOut, Sends}
use Rattle.place_turns.specs.Passes.{Shuts}
use Rattle.place_turns.proofs.PassTurns.{same_again}

-- ---- turns

abbrev part : Known → Tree
part v = v.part

-- one pass of a row took a turn that left its part as it was
pub one_parts : (place : ℕ) (olds news : List Known) (Turns : Known → Known → Type 0) →
    ((v w : Known) → Turns v w → w.part ≡ v.part) → TurnsOne place olds news Turns →
    parts_of news ≡ parts_of olds
one_parts place olds news Turns stays one =
    ap parts_of one.has ∙ map-set part olds place one.after
    ∙ ap (λ (t : Tree). slice_set (parts_of olds) place t) (stays one.before one.after one.turns)
    ∙ same_again (parts_of olds) place one.before.part
    (slice_get-map part olds place ∙ ap (option_map part) one.had)

pub look_parts : (v w : Known) → LooksOn v w → w.part ≡ v.part
look_parts v w look = ap part look.turn.left

pub shut_parts : (port : ℕ) (v w : Known) → Shuts port v w → w.part ≡ v.part
shut_parts port v w shut = ap part shut.1.turn.left

turn_parts : (place : ℕ) (olds news : List Known) (found then_ : List Entry) →
    IsTurnAt place olds news found then_ → parts_of news ≡ parts_of olds
turn_parts place olds news found then_ is =
    one_parts place olds news (λ v w. IsTurn v found then_ w)
    (λ v w turn. ap part turn.left) is.one

-- ---- packets that move on

abbrev Same : Trail → Trail → Type 0
Same t u = parts_of u.known ≡ parts_of t.known

at_once : (t u : Trail) → u ≡ t → Same t u
at_once t u is = ap (λ (v : Trail). parts_of v.known) is

module _ (places : ℕ) (s : Setting) where
  abbrev Keeps : ℕ → Type 0
  Keeps memory = (t u : Trail) (card : Card) (route : Option Next) (f : Fed) →
      Carries memory places s t card route u f → Same t u

  settled : (memory : ℕ) → Keeps memory → (t u : Trail) (left : List (Card × Way)) (f : Fed) →
      Settles (Carries memory places s) s t left u f → Same t u
  settled memory keeps t u [] f goes = at_once t u goes.0
  settled memory keeps t u (l ∷ ls) f goes = keeps t u l.0 (route_after s l) f goes

  carried : (memory : ℕ) → Keeps memory
  carried memory t u card None f goes = at_once t u goes.0
  carried memory t u card (Some Released) f goes = at_once t u goes.0
  carried zero t u card (Some (To queue bypass table)) f goes =
      ap (λ (v : Trail). parts_of v.known) goes.lost
      ∙ turn_parts _ t.known goes.between.known goes.found goes.found goes.looked.turn
  carried (suc memory) t u card (Some (To queue bypass table)) f goes =
      settled memory (carried memory) goes.between u
      (step_of goes.found queue (arrive (arrival_to queue bypass table card) goes.room)).left f
      goes.settles
      ∙ turn_parts _ t.known goes.between.known goes.found _ goes.turn.turn

  all_carried : (hs : List (Card × Decision)) (t u : Trail) → CarriesAll places s hs t u → Same t u
  all_carried [] t u is = at_once t u is
  all_carried (h ∷ hs) t u is =
      all_carried hs is.between u is.rest
      ∙ carried is.memory t is.between h.0 _ is.ended is.first

  out_parts : (port call : ℕ) (d : Decoded) (t u : Trail) (errno : ℕ) →
      CarriesOut places s port call d t u errno → Same t u
  out_parts port call decoded.Nothing t u errno out = at_once t u out.1
  out_parts port call (decoded.Refused refusal) t u errno out = at_once t u out.1
  out_parts port call (decoded.Asked request) t u errno out =
      all_carried _ out.between u out.moved
      ∙ turn_parts _ t.known out.between.known out.found _ out.turn.turn

  pub sends_parts : (port : ℕ) (front : Option (NetlinkMessage × ℕ)) (dids logged : List Did)
      (t u : Trail) (before after : List ℕ) (used : ℕ) →
      Sends places s port front dids logged t u before after used → Same t u
  sends_parts port None dids logged t u before after used sends = at_once t u sends.1
  sends_parts port (Some (m, n)) dids logged t u before after used sends =
      out_parts port (next_call dids) (reading.decoded m) t u sends.1.errno sends.1.carried_out

-- ---- calls

pub fed_parts : (places : ℕ) (s : Setting) (card : Card) (t u : Trail) (f : Fed) →
    IsFed places s t card u f → Same t u
fed_parts places s card t u f fed =
    carried places s (suc fed.memory) t u card (Some (next s.tables s.key card 1)) f fed.moved

pub may_look_parts : (t u : Trail) → MayLook t u → Same t u
may_look_parts t u (inl same) = at_once t u same
may_look_parts t u (inr (same, (place, one))) =
    one_parts place t.known u.known LooksOn look_parts one

pub down_parts : (device place count : ℕ) (olds news : List Known) →
    TurnsOne place olds news (λ v w. GoesDownIn device v w count) →
    parts_of news ≡ parts_of olds
down_parts device place count olds news =
    one_parts place olds news (λ v w. GoesDownIn device v w count)
    (λ v w in_. ap part in_.turn.left)
