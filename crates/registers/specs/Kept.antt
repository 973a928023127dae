-- Nothing that a register keeps is lost on the way through its byte.
use Rattle.std.specs.Prelude.{◌≡◌, false}
use Rattle.rules.specs.Registers.{scsiseq_of, scsiseq_byte, sxfrctl0_of, sxfrctl0_byte, sxfrctl1_of, sxfrctl1_byte, simode0_of, simode0_byte, simode1_of, simode1_byte, dmacntrl0_of, dmacntrl0_byte}
use Rattle.rules.specs.declared.registers.Scsiseq.{Scsiseq}
use Rattle.rules.specs.declared.registers.Sxfrctl0.{Sxfrctl0}
use Rattle.rules.specs.declared.registers.Sxfrctl1.{Sxfrctl1}
use Rattle.rules.specs.declared.registers.Simode0.{Simode0}
use Rattle.rules.specs.declared.registers.Simode1.{Simode1}
use Rattle.rules.specs.declared.registers.Dmacntrl0.{Dmacntrl0}
use Rattle.laws.proofs.EightBits.{bits}

pub scsiseq_back : (r : Scsiseq) → scsiseq_of (scsiseq_byte r) ≡ r
scsiseq_back r =
    let b = bits r.temodeo r.enselo r.enseli r.enrseli r.enautoatno r.enautoatni r.enautoatnp r.scsirsto in
    λ i.
    record {
      temodeo = b.seven i;
      enselo = b.six i;
      enseli = b.five i;
      enrseli = b.four i;
      enautoatno = b.three i;
      enautoatni = b.two i;
      enautoatnp = b.one i;
      scsirsto = b.zero i;
    }

pub sxfrctl0_back : (r : Sxfrctl0) → sxfrctl0_of (sxfrctl0_byte r) ≡ r
sxfrctl0_back r =
    let b = bits r.scsien r.dmaen r.chen false r.spioen false false false in
    λ i.
    record {
      scsien = b.seven i;
      dmaen = b.six i;
      chen = b.five i;
      spioen = b.three i;
    }

pub sxfrctl1_back : (r : Sxfrctl1) → sxfrctl1_of (sxfrctl1_byte r) ≡ r
sxfrctl1_back r =
    let b = bits r.bitbucket r.swrapen r.enspchk r.stimesel1 r.stimesel0 r.enstimer r.bytealign false in
    λ i.
    record {
      bitbucket = b.seven i;
      swrapen = b.six i;
      enspchk = b.five i;
      stimesel1 = b.four i;
      stimesel0 = b.three i;
      enstimer = b.two i;
      bytealign = b.one i;
    }

pub simode0_back : (r : Simode0) → simode0_of (simode0_byte r) ≡ r
simode0_back r =
    let b = bits false r.enseldo r.enseldi r.enselingo r.enswrap r.ensdone r.enspiordy r.endmadone in
    λ i.
    record {
      enseldo = b.six i;
      enseldi = b.five i;
      enselingo = b.four i;
      enswrap = b.three i;
      ensdone = b.two i;
      enspiordy = b.one i;
      endmadone = b.zero i;
    }

pub simode1_back : (r : Simode1) → simode1_of (simode1_byte r) ≡ r
simode1_back r =
    let b = bits r.enseltimo r.enatntarg r.enscsirst r.enphasemis r.enbusfree r.enscsiperr r.enphasechg r.enreqinit in
    λ i.
    record {
      enseltimo = b.seven i;
      enatntarg = b.six i;
      enscsirst = b.five i;
      enphasemis = b.four i;
      enbusfree = b.three i;
      enscsiperr = b.two i;
      enphasechg = b.one i;
      enreqinit = b.zero i;
    }

pub dmacntrl0_back : (r : Dmacntrl0) → dmacntrl0_of (dmacntrl0_byte r) ≡ r
dmacntrl0_back r =
    let b = bits r.endma r.eightbit r.dma r.dwordpio r.write r.inten false r.swint in
    λ i.
    record {
      endma = b.seven i;
      eightbit = b.six i;
      dma = b.five i;
      dwordpio = b.four i;
      write = b.three i;
      inten = b.two i;
      swint = b.zero i;
    }
