mod LiveReads
mod FewHands
mod Modest
mod Stands
