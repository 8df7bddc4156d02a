-- The program's command, as clap's definitions see it: which words it takes, and which subcommand they mean.
use Rattle.std.specs.Prelude.{true, false, List, [], ◌∷◌, Some, codes}
use Rattle.clap.specs.Words.{App, Rule, Shape, new_rule}
use Rattle.clap.specs.Simple.{new_shape}
use Rattle.clap.specs.declared.builder.action.ArgAction.TheVariants.{Set}
use Rattle.clap.specs.declared.builder.value_parser.ValueParser.TheVariants.{Unsigned}

-- the number of `trial`: one that has to be given, a whole number from 1 to 200
abbrev pub number_rule : Rule
number_rule = record (new_rule (codes "N")) {
  required = true;
  action = Some Set;
  parser = Some (Unsigned 1 200);
}

-- `trial N`
abbrev pub trial_shape : Shape
trial_shape = record (new_shape (codes "trial")) { rules = number_rule ∷ [] }

-- a subcommand for each job
abbrev pub job_shapes : List Shape
job_shapes =
    new_shape (codes "plan") ∷ new_shape (codes "extract") ∷ new_shape (codes "check") ∷ trial_shape ∷ []

-- the program without its subcommands: its first word has to be one, and nothing asks for help
abbrev pub program_shape : Shape
program_shape = record (new_shape (codes "loom")) {
  no_binary_name = true;
  disable_help_flag = true;
  disable_help_subcommand = true;
  subcommand_required = true;
}

-- the program
abbrev pub loom_app : App
loom_app = record { top = record program_shape { is_leaf = false }; subs = job_shapes }
