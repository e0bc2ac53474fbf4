-- The constants of the code beside those of the definitions.
use Rattle.sheet.specs.Constants
use Rattle.sheet.specs.declared.Widths.{Widths}
use Rattle.sheet.specs.declared.Limits.{Limits}
use Rattle.sheet.specs.declared.Policies.{Policies}

abbrev pub the_widths : Widths
the_widths =
    record {
      version = Constants.version_width;
      policy = Constants.policy_width;
      task_count = Constants.task_count_width;
      spare = Constants.spare_width;
      time = Constants.time_width;
      frame_count = Constants.frame_count_width;
    }

abbrev pub the_limits : Limits
the_limits =
    record {
      version_1 = Constants.version_1;
      version_2 = Constants.version_2;
      tasks = Constants.most_tasks;
      frames = Constants.most_frames;
      time = Constants.greatest_time;
      least_size = Constants.least_size;
      greatest_size = Constants.greatest_size;
    }

abbrev pub the_policies : Policies
the_policies =
    record { listed = Constants.listed; rate_monotonic = Constants.rate_monotonic; deadline_monotonic = Constants.deadline_monotonic }
