mod Loaded
