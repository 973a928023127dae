use Rattle.std.proofs.Common.{◌∙◌}
use Rattle.adapter.proofs.Printing.{front_length, lines_printed}
use Rattle.adapter.proofs.print.Goals as goal

pub slice_bounds-print-end-2 : goal.slice_bounds-print-end-2
slice_bounds-print-end-2 c =
    let a = c.args in
    let run = c.run-ran in
    front_length a.c a.records.now a.answers.now run.new.answers run.result run.ensures c.requires (run.auto.answers ∙ c.requires)

pub returns : goal.returns
returns c =
    let a = c.args in
    let run = c.run-ran in
    let print = c.print in
    let both = lines_printed a.c a.records.now a.answers.now run.new.answers run.result run.ensures c.requires (run.auto.answers ∙ c.requires)
    a.text.now print.new.out print.result print.ensures in
    record { printed = both.0; answers_after = both.1 }
