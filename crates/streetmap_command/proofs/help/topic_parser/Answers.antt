use Rattle.std.proofs.Common.{◌≡◌, Result, IfOk, sym, subst}
use Rattle.std.specs.declared.alloc.AllocError.{AllocError}
use Rattle.clap.specs.Words.{app_of}
use Rattle.clap.specs.declared.builder.command.Command.{Command}
use Rattle.streetmap_command.specs.declared.help.Topic.{Topic}
use Rattle.streetmap_command.specs.Program.{help_app}
use Rattle.streetmap_command.proofs.help.topic_parser.Goals as goal

-- the command line of a topic is that of the topic which it equals
same_topic : (r : Result Command AllocError) (t u : Topic) → t ≡ u
    → IfOk r (λ c. app_of c ≡ help_app u) → IfOk r (λ c. app_of c ≡ help_app t)
same_topic r t u e h = subst (λ (x : Topic). IfOk r (λ c. app_of c ≡ help_app x)) (sym e) h

pub returns-in-Lines : goal.returns-in-Lines
returns-in-Lines c =
    same_topic c.with_usage_name.result c.args.topic _ c.in-Lines.is
    (c.with_usage_name.ensures _ c.make_lines.ensures.app)

pub returns-in-Create : goal.returns-in-Create
returns-in-Create c =
    same_topic c.with_usage_name-in-Create.result c.args.topic _ c.in-Create.is
    (c.with_usage_name-in-Create.ensures _ c.make_create.ensures.app)

pub returns-in-Pipe : goal.returns-in-Pipe
returns-in-Pipe c =
    same_topic c.with_usage_name-in-Pipe.result c.args.topic _ c.in-Pipe.is
    (c.with_usage_name-in-Pipe.ensures _ c.make_pipe.ensures.app)

pub returns-in-Serve : goal.returns-in-Serve
returns-in-Serve c =
    same_topic c.with_usage_name-in-Serve.result c.args.topic _ c.in-Serve.is
    (c.with_usage_name-in-Serve.ensures _ c.make_serve.ensures.app)

pub returns-in-Import : goal.returns-in-Import
returns-in-Import c =
    same_topic c.with_usage_name-in-Import.result c.args.topic _ c.in-Import.is
    (c.with_usage_name-in-Import.ensures _ c.make_import.ensures.app)

pub returns-in-Export : goal.returns-in-Export
returns-in-Export c =
    same_topic c.with_usage_name-in-Export.result c.args.topic _ c.in-Export.is
    (c.with_usage_name-in-Export.ensures _ c.make_export.ensures.app)

pub returns-in-Check : goal.returns-in-Check
returns-in-Check c =
    same_topic c.with_usage_name-in-Check.result c.args.topic _ c.in-Check.is
    (c.with_usage_name-in-Check.ensures _ c.make_check.ensures.app)

pub returns-in-Load : goal.returns-in-Load
returns-in-Load c =
    same_topic c.with_usage_name-in-Load.result c.args.topic _ c.in-Load.is
    (c.with_usage_name-in-Load.ensures _ c.make_load.ensures.app)

pub returns-in-Batches : goal.returns-in-Batches
returns-in-Batches c =
    same_topic c.with_usage_name-in-Batches.result c.args.topic _ c.in-Batches.is
    (c.with_usage_name-in-Batches.ensures _ c.make_batches.ensures.app)

pub returns-in-Apply : goal.returns-in-Apply
returns-in-Apply c =
    same_topic c.with_usage_name-in-Apply.result c.args.topic _ c.in-Apply.is
    (c.with_usage_name-in-Apply.ensures _ c.make_apply.ensures.app)
