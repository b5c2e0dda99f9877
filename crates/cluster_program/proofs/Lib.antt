mod HeadLaws
mod PortLaws
mod ServeLaws
mod WordLaws
