use Rattle.rules.specs.Registers.{simode0_of, simode1_of}
use Rattle.image.specs.Image.{status_of}
use Rattle.event.proofs.ThroughD.{image_raised, image_fallen, closed}
use Rattle.event.proofs.closing.closed_in.Goals as goal

pub fallen_in-requires : goal.fallen_in-requires
fallen_in-requires c = image_raised c.requires.image c.raised_without.ensures

pub latched_in-requires : goal.latched_in-requires
latched_in-requires c =
    image_fallen c.requires.image c.raised_without.ensures c.args.acks c.fallen_in.ensures

pub returns : goal.returns
returns c =
    let a = c.args in
    closed c.requires.image c.raised_without.ensures a.acks c.fallen_in.ensures (simode0_of a.before.simode0) (simode1_of a.before.simode1) (status_of a.status)
    c.latched_in.ensures
