use Rattle.std.proofs.Common.{ap, sym}
use Rattle.av_expr.specs.Vars.{variable_named, spellings}
use Rattle.av_expr.proofs.VarLemmas.{missed}
use Rattle.av_expr.proofs.vars.Var.named.Goals as goal

pub returns-in-iw : goal.returns-in-iw
unfolding variable_named
returns-in-iw c = sym (ap variable_named c.in-iw.is-iw)

pub returns-in-iw-2 : goal.returns-in-iw-2
unfolding variable_named
returns-in-iw-2 c = sym (ap variable_named c.in-iw.is-in_w)

pub returns-in-ih : goal.returns-in-ih
unfolding variable_named
returns-in-ih c = sym (ap variable_named c.in-ih.is-ih)

pub returns-in-ih-2 : goal.returns-in-ih-2
unfolding variable_named
returns-in-ih-2 c = sym (ap variable_named c.in-ih.is-in_h)

pub returns-in-ow : goal.returns-in-ow
unfolding variable_named
returns-in-ow c = sym (ap variable_named c.in-ow.is-ow)

pub returns-in-ow-2 : goal.returns-in-ow-2
unfolding variable_named
returns-in-ow-2 c = sym (ap variable_named c.in-ow.is-out_w)

pub returns-in-oh : goal.returns-in-oh
unfolding variable_named
returns-in-oh c = sym (ap variable_named c.in-oh.is-oh)

pub returns-in-oh-2 : goal.returns-in-oh-2
unfolding variable_named
returns-in-oh-2 c = sym (ap variable_named c.in-oh.is-out_h)

pub returns-in-hsub : goal.returns-in-hsub
unfolding variable_named
returns-in-hsub c = sym (ap variable_named c.in-hsub.is)

pub returns-in-vsub : goal.returns-in-vsub
unfolding variable_named
returns-in-vsub c = sym (ap variable_named c.in-vsub.is)

pub returns-in-W : goal.returns-in-W
unfolding variable_named
returns-in-W c = sym (ap variable_named c.in-W.is-W)

pub returns-in-W-2 : goal.returns-in-W-2
unfolding variable_named
returns-in-W-2 c = sym (ap variable_named c.in-W.is-main_w)

pub returns-in-H : goal.returns-in-H
unfolding variable_named
returns-in-H c = sym (ap variable_named c.in-H.is-H)

pub returns-in-H-2 : goal.returns-in-H-2
unfolding variable_named
returns-in-H-2 c = sym (ap variable_named c.in-H.is-main_h)

pub returns-in-w : goal.returns-in-w
unfolding variable_named
returns-in-w c = sym (ap variable_named c.in-w.is-w)

pub returns-in-w-2 : goal.returns-in-w-2
unfolding variable_named
returns-in-w-2 c = sym (ap variable_named c.in-w.is-overlay_w)

pub returns-in-h : goal.returns-in-h
unfolding variable_named
returns-in-h c = sym (ap variable_named c.in-h.is-h)

pub returns-in-h-2 : goal.returns-in-h-2
unfolding variable_named
returns-in-h-2 c = sym (ap variable_named c.in-h.is-overlay_h)

pub returns-in-val : goal.returns-in-val
unfolding variable_named
returns-in-val c = sym (ap variable_named c.in-val.is)

pub returns-in-minval : goal.returns-in-minval
unfolding variable_named
returns-in-minval c = sym (ap variable_named c.in-minval.is)

pub returns-in-maxval : goal.returns-in-maxval
unfolding variable_named
returns-in-maxval c = sym (ap variable_named c.in-maxval.is)

pub returns-in-negval : goal.returns-in-negval
unfolding variable_named
returns-in-negval c = sym (ap variable_named c.in-negval.is)

pub returns-in-PTS : goal.returns-in-PTS
unfolding variable_named
returns-in-PTS c = sym (ap variable_named c.in-PTS.is)

pub returns-in-STARTPTS : goal.returns-in-STARTPTS
unfolding variable_named
returns-in-STARTPTS c = sym (ap variable_named c.in-STARTPTS.is)

pub returns-in-N : goal.returns-in-N
unfolding variable_named
returns-in-N c = sym (ap variable_named c.in-N.is)

pub returns-in-TB : goal.returns-in-TB
unfolding variable_named
returns-in-TB c = sym (ap variable_named c.in-TB.is)

pub returns-in_default : goal.returns-in_default
unfolding variable_named
returns-in_default c = let d = c.in_default in sym (missed c.args.name.now spellings (d.not-iw, (d.not-in_w, (d.not-ih, (d.not-in_h, (d.not-ow, (d.not-out_w, (d.not-oh, (d.not-out_h, (d.not-hsub, (d.not-vsub, (d.not-W, (d.not-main_w, (d.not-H, (d.not-main_h, (d.not-w, (d.not-overlay_w, (d.not-h, (d.not-overlay_h, (d.not-val, (d.not-minval, (d.not-maxval, (d.not-negval, (d.not-PTS, (d.not-STARTPTS, (d.not-N, (d.not-TB, tt)))))))))))))))))))))))))))
