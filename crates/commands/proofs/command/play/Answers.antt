use Rattle.command_line.specs.Arguments.{Audits, Generates, Lists, Migrates, Plays, Tries}
use Rattle.commands.proofs.Statuses.{of_call, only_printed, quietly_ended, usage_comes, usage_is}
use Rattle.commands.proofs.Statuses.{usage_is_printed, which_statuses}
use Rattle.commands.proofs.command.play.Goals as goal

pub returns : goal.returns
returns g c =
    let answer = c.status_of_words.ensures.answer in
    record {
      statuses = which_statuses _ _ _ answer;
      by_command = λ k is. (of_call _ _ _ k is answer).statuses;
      usage = (usage_comes _ _ _ answer, usage_is _ _ _ answer);
      usage_printed = usage_is_printed _ _ _ answer;
      read_fault = λ is_2 k is. (of_call _ _ _ k is answer).read_fault is_2;
      write_fault = λ is_3 k is. (of_call _ _ _ k is answer).write_fault is_3;
      unread = λ is_2 k is t. (of_call _ _ _ k is answer).unread is_2 t;
      stopped = λ is_3 k is. (of_call _ _ _ k is answer).stopped is_3;
      cut_short = λ is_3 k is t. (of_call _ _ _ k is answer).cut_short is_3 t;
      refused = λ of k is t. (of_call _ _ _ k is answer).refused of t;
      exact = λ k i why is is_i t refused. (of_call _ _ _ k is answer).exact i why is_i t refused;
      played = λ is_0 f is t. (of_call _ _ _ (Plays f) is answer).done is_0 t;
      listed = λ is_0 f is t. (of_call _ _ _ (Lists f) is answer).done is_0 t;
      generated = λ is_0 f is t. (of_call _ _ _ (Generates f) is answer).done is_0 t;
      tried = λ is_0 f is t. (of_call _ _ _ (Tries f) is answer).done is_0 t;
      migrated = λ is_0 f is t. (of_call _ _ _ (Migrates f) is answer).done is_0 t;
      audited = λ is_0 a is t. (of_call _ _ _ (Audits a) is answer).audited is_0 t;
      amiss = λ is_11 k is t. (of_call _ _ _ k is answer).amiss is_11 t;
      passes = λ a is t audited. (of_call _ _ _ (Audits a) is answer).passes t audited;
      finds = λ a f is t finds. (of_call _ _ _ (Audits a) is answer).finds t f finds;
      complete = λ k is t taken. (of_call _ _ _ k is answer).complete t taken;
      untouched = only_printed _ _ _ answer;
      quiet = quietly_ended _ _ _ answer;
      others = λ ends k is. (of_call _ _ _ k is answer).others ends;
      later = c.status_of_words.ensures.later;
      answer = answer;
    }
