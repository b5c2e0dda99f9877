mod KeptLaws
mod CountedLaws
mod OneLaws
