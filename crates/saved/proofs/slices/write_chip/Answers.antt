use Rattle.saved.proofs.Lent.{entered_tidy, right_length}
use Rattle.saved.proofs.slices.write_chip.Goals as goal

pub store-requires : goal.store-requires
store-requires c = entered_tidy c.args.c c.tidied.result c.tidied.ensures

pub returns : goal.returns
returns c =
    right_length c.args.c c.tidied.result c.tidied.ensures c.store.ensures c.if-out-ne-SIZE.false c.copy_from_slice.ensures.after
