use Rattle.std.proofs.Common.{◌∙◌}
use Rattle.loom_plan.proofs.LaidLive.{no_more_sets}
use Rattle.loom_plan.proofs.finding.found_sets.Goals as goal

pub returns-in-Ok-clause-found : goal.returns-in-Ok-clause-found
returns-in-Ok-clause-found c = record {
  found = record {
    some_choice = c.in-Ok.ensures.some_choice;
    clear = c.in-Ok.ensures.no_clash;
    few_sets = no_more_sets c.args.project.now c.live_sets.new.rows c.in-Ok.sets.list c.in-Ok.ensures.sets c.in-Ok.ensures.few_sets;
    few_rows = c.in-Ok.ensures.few_rows;
  };
  job = record {
    options = c.in-Ok.ensures.same_job.options ∙ c.requires.options;
    limit = c.in-Ok.ensures.same_job.limit ∙ c.requires.limit;
    sound = c.in-Ok.ensures.sound;
    stands = c.in-Ok.ensures.stands;
  };
  live = c.in-Ok.ensures.sets;
  few = c.in-Ok.ensures.few_sets;
}

pub returns-in-Err-clause-stop : goal.returns-in-Err-clause-stop
returns-in-Err-clause-stop c = c.stop_of_search.ensures c.args.project.now c.in-Err.ensures.stop
