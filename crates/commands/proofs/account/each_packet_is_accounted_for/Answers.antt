use Rattle.std.specs.Prelude.{◌<◌, All}
use Rattle.histories.specs.Numbers.{queue_count}
use Rattle.histories.specs.declared.entry.Entry.{Entry}
use Rattle.commands.proofs.account.each_packet_is_accounted_for.Goals as goal

pub returns : goal.returns
returns c = λ tables script capture h is solo legal fit sound.
    let numbered : All (λ (e : Entry). e.queue < queue_count) h.entries =
    λ k d within. (fit.entries k d within).queue in
    let made = c.no_notice_is_left.ensures.made script tables capture h is solo numbered in
    record {
      schedule = solo;
      only = λ g other.
          c.a_schedule_has_one_run.ensures.entries script tables capture g h other solo;
      run = c.a_run_is_accounted_for.ensures 1 1 tables script capture h _ is fit solo.entries
          (record {
            nothing_lost = solo.lost;
            legal = legal;
            sound = sound;
            notes = made.0;
            made = made.1;
            order = c.one_order_of_all_events.ensures script tables capture h is solo;
          });
    }
