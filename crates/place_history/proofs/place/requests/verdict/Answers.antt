use Rattle.std.proofs.Common.{◌≡◌, ◌<◌, ◌++◌, ℕ, [], ◌∷◌, Some, None, refl, sym, ap, ◌∙◌}
use Rattle.std.proofs.Common.{append-nil}
use Rattle.nfqa_msgs.specs.declared.request.Request.TheVariants.{Verdict}
use Rattle.queue_core.specs.declared.event.Event.TheVariants.{Ask}
use Rattle.queue_core.specs.Calls.{hands_out}
use Rattle.queue_core.specs.Step.{Stepped, step, unchanged, way_of}
use Rattle.histories.specs.Happenings.{handed_of}
use Rattle.histories.specs.Numbers.{queue_count}
use Rattle.histories.specs.States.{state_of}
use Rattle.place_history.specs.Changes.{Changes}
use Rattle.place_history.proofs.QueueStep.{ahead}
use Rattle.place_history.proofs.RequestEntries.{enters, refused_step, served_makes, served_enters}
use Rattle.place_history.proofs.place.requests.verdict.Goals as goal

pub append-requires-clause-ahead : goal.append-requires-clause-ahead
append-requires-clause-ahead c =
    let number : c.args.asker.queue < queue_count = search in
    let changes : Changes c.args.held.now.queues c.verdict.new.queues c.args.asker.queue
    (λ old new. (new.offer ≡ None) × ((queue call : ℕ) →
    step (Some old.state) (Ask c.args.asker.port call
    (Verdict queue c.args.head c.args.mark c.args.payload c.args.priority))
    ≡ hands_out new.state ((c.in-Ok.packet, c.in-Ok.decision) ∷ [])))
    = rw c.in-Ok.is at c.verdict.ensures.leaves in
    rw (c.answered.ensures, c.in_ok-share_payload.ensures, c.requires.no_offer)
    (ahead c.args.held.now c.verdict.new.queues _ c.requires.replayed
    (rw c.requires.no_offer tt) number changes
    (served_makes changes.before changes.after c.args.asker
    (Verdict c.args.asker.queue c.args.head c.args.mark c.args.payload c.args.priority)
    ((c.in-Ok.packet, c.in-Ok.decision) ∷ []) changes.by.0
    (changes.by.1 c.args.asker.queue c.args.asker.call)))

pub returns-in-Ok-clause-entered : goal.returns-in-Ok-clause-entered
returns-in-Ok-clause-entered c =
    let changes : Changes c.args.held.now.queues c.verdict.new.queues c.args.asker.queue
    (λ old new. (new.offer ≡ None) × ((queue call : ℕ) →
    step (Some old.state) (Ask c.args.asker.port call
    (Verdict queue c.args.head c.args.mark c.args.payload c.args.priority))
    ≡ hands_out new.state ((c.in-Ok.packet, c.in-Ok.decision) ∷ [])))
    = rw c.in-Ok.is at c.verdict.ensures.leaves in
    let appended = rw (c.answered.ensures, c.in_ok-share_payload.ensures)
    at c.append.ensures.entries in
    record {
      handed = _;
      entered = served_enters c.args.held.now c.append.new.held changes.before changes.after
          c.args.asker
          (Verdict c.args.asker.queue c.args.head c.args.mark c.args.payload c.args.priority)
          ((c.in-Ok.packet, c.in-Ok.decision) ∷ []) c.requires.replayed changes.was
          (changes.by.1 c.args.asker.queue c.args.asker.call) appended;
      appended = rw (append-nil (handed_of (c.in-Ok.packet, way_of c.in-Ok.decision)))
          (c.hand_on.ensures
          ∙ ap (λ items. items ++ handed_of (c.in-Ok.packet, way_of c.in-Ok.decision))
          c.make_room.ensures.items);
    }

pub note-requires-clause-one : goal.note-requires-clause-one
note-requires-clause-one c =
    let request =
    Verdict c.args.asker.queue c.args.head c.args.mark c.args.payload c.args.priority in
    let refused = rw c.in-Err.is at c.verdict.ensures.refused in
    let is = refused_step c.args.held.now c.args.asker.queue
    (Ask c.args.asker.port c.args.asker.call request) c.in-Err.errno c.requires.replayed
    (refused c.args.asker.queue c.args.asker.call) in
    rw (c.answered-in-Err.ensures, c.in_ok-share_payload.ensures) (record {
      reply = sym (ap (λ (s : Stepped). s.reply) is);
      allowed = tt;
    })

pub note-requires-clause-still : goal.note-requires-clause-still
note-requires-clause-still c =
    let request =
    Verdict c.args.asker.queue c.args.head c.args.mark c.args.payload c.args.priority in
    let refused = rw c.in-Err.is at c.verdict.ensures.refused in
    let is = refused_step c.args.held.now c.args.asker.queue
    (Ask c.args.asker.port c.args.asker.call request) c.in-Err.errno c.requires.replayed
    (refused c.args.asker.queue c.args.asker.call) in
    rw (c.answered-in-Err.ensures, c.in_ok-share_payload.ensures)
    (ap (λ (s : Stepped). s.state) is)

pub returns-in-Err-clause-entered : goal.returns-in-Err-clause-entered
returns-in-Err-clause-entered c =
    let request =
    Verdict c.args.asker.queue c.args.head c.args.mark c.args.payload c.args.priority in
    let refused = rw c.in-Err.is at c.verdict.ensures.refused in
    let is = refused_step c.args.held.now c.args.asker.queue
    (Ask c.args.asker.port c.args.asker.call request) c.in-Err.errno c.requires.replayed
    (refused c.args.asker.queue c.args.asker.call) in
    let appended = rw (c.answered-in-Err.ensures, c.in_ok-share_payload.ensures)
    at c.note.ensures.entries in
    record {
      handed = [];
      entered = enters c.args.held.now c.note.new.held c.args.asker.queue
          (Ask c.args.asker.port c.args.asker.call request) c.in-Err.errno 0 [] _
          (unchanged (state_of c.args.held.now.entries.items c.args.asker.queue) c.in-Err.errno)
          is appended refl refl refl refl;
      appended = c.make_room.ensures.items ∙ sym (append-nil c.args.handed.now.items);
    }
